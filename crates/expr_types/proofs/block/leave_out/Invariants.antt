use Rattle.std.proofs.Common.{◌≡◌, ◌++◌, None, replicate}
use Rattle.expr_types.specs.inner.Blocks.{definitions_in}
use Rattle.expr_types.proofs.block.leave_out.Given as goal

abbrev pub invariant-loop : goal.invariant-loop
invariant-loop l = definitions_in l.all.items ≡ definitions_in l.initial.all.items ++ replicate l.counter None
