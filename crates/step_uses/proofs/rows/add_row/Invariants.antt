use Rattle.std.proofs.Common.{◌≡◌, ◌++◌, drop}
use Rattle.step_uses.proofs.rows.add_row.Given as goal

abbrev pub invariant-loop-number : goal.invariant-loop-number
invariant-loop-number l = l.numbers.items ++ drop l.number-index l.row ≡ l.fn.numbers.items ++ l.row
