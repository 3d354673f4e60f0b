use Rattle.std.proofs.Common.{◌≡◌, length}
use Rattle.alias_nears.proofs.asked.mark_merged.Given as goal

abbrev pub invariant-loop-variable : goal.invariant-loop-variable
invariant-loop-variable l = length l.asked ≡ length l.initial.asked
