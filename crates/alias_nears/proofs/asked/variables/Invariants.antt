use Rattle.std.proofs.Common.{◌≡◌, length}
use Rattle.alias_nears.proofs.asked.variables.Given as goal

abbrev pub invariant-loop-number : goal.invariant-loop-number
invariant-loop-number l = length l.variables ≡ length l.flat.equations
