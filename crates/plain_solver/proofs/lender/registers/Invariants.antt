use Rattle.std.proofs.Common.{◌≡◌, ◌++◌, drop}
use Rattle.plain_solver.specs.inner.Lent.{registers_from}
use Rattle.plain_solver.proofs.lender.registers.Given as goal

abbrev pub invariant-loop-number : goal.invariant-loop-number
invariant-loop-number l = l.registers.items ++ registers_from l.number (drop l.number l.values) ≡ registers_from 0 l.values
