use Rattle.std.proofs.Common.{◌≡◌}
use Rattle.code_check.specs.inner.Unchanged as seen
use Rattle.code_check.proofs.system.own_numbers.Given as goal

abbrev pub invariant-loop-number : goal.invariant-loop-number
invariant-loop-number l = l.numbers ≡ seen.own_numbers l.number
