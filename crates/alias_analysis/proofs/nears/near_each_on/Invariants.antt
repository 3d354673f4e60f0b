use Rattle.alias_nears.specs.inner.Nears.{AreNearFirst}
use Rattle.alias_analysis.proofs.nears.near_each_on.Given as goal

abbrev pub invariant-loop-place : goal.invariant-loop-place
invariant-loop-place l = AreNearFirst l.flat l.set l.place l.nears.items
