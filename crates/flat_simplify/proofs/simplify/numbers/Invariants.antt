use Rattle.std.proofs.Common.{◌≡◌, length}
use Rattle.flat_simplify.proofs.simplify.numbers.Given as goal

abbrev pub invariant-loop-number : goal.invariant-loop-number
invariant-loop-number l = length l.replaced ≡ l.number
