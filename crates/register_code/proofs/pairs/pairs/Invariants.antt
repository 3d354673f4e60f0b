use Rattle.std.proofs.Common.{◌≡◌}
use Rattle.register_code.specs.inner.Pairs.{argument_pairs}
use Rattle.register_code.proofs.pairs.pairs.Given as goal

abbrev pub invariant-loop-number : goal.invariant-loop-number
invariant-loop-number l = l.edges ≡ argument_pairs l.flat l.number
