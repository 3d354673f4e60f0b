use Rattle.alias_paths.specs.inner.Search.{AreChained}
use Rattle.alias_paths.proofs.links.chained.Given as goal

abbrev pub invariant-loop-place : goal.invariant-loop-place
invariant-loop-place l = AreChained l.count l.pairs l.place l.chains.last.items l.chains.before.items
