use Rattle.std.proofs.Common.{◌≡◌, []}
use Rattle.code_check.specs.inner.Unchanged.{system_in}
use Rattle.code_check.proofs.system.with_outputs.Given as goal

abbrev pub invariant-loop-output : goal.invariant-loop-output
invariant-loop-output l = l.builder ≡ system_in l.fn.builder.equations l.yielded []
