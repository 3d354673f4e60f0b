use Rattle.std.proofs.Common.{◌≡◌, ◌++◌, take}
use Rattle.register_code.specs.inner.Pairs.{pairs_to}
use Rattle.register_code.proofs.pairs.push_arguments.Given as goal

abbrev pub invariant-loop-argument : goal.invariant-loop-argument
invariant-loop-argument l = l.edges ≡ l.initial.edges ++ pairs_to l.equation (take l.argument-index l.arguments)
