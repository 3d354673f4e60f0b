use Rattle.std.proofs.Common.{◌≡◌, ◌++◌, ◌-◌}
use Rattle.plain_solver.specs.inner.Lent.{numbers_from}
use Rattle.plain_solver.proofs.lender.numbers.Given as goal

abbrev pub invariant-loop-number : goal.invariant-loop-number
invariant-loop-number l = l.numbers.items ++ numbers_from l.number (l.count - l.number) ≡ numbers_from 0 l.count
