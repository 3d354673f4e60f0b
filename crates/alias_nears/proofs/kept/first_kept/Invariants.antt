use Rattle.alias_rules.specs.Conflict.{IsKept}
use Rattle.alias_nears.proofs.Conflicts.{NoneBefore}
use Rattle.alias_nears.proofs.kept.first_kept.Given as goal

abbrev pub invariant-loop-place : goal.invariant-loop-place
invariant-loop-place l = NoneBefore l.set (IsKept l.flat l.set) l.place
