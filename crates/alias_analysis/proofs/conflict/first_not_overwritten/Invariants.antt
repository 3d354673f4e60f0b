use Rattle.alias_rules.specs.Conflict.{IsNotOverwritten}
use Rattle.alias_nears.proofs.Conflicts.{NoneBefore}
use Rattle.alias_analysis.proofs.conflict.first_not_overwritten.Given as goal

abbrev pub invariant-loop-place : goal.invariant-loop-place
invariant-loop-place l = NoneBefore l.set (IsNotOverwritten l.flat l.set) l.place
