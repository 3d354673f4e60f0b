use Rattle.std.proofs.Common.{take}
use Rattle.alias_paths.specs.inner.Pairs.{Adds, IsGiven}
use Rattle.alias_nears.proofs.Widening.{GivesAdded}
use Rattle.alias_nears.proofs.writes.push_added.Given as goal

abbrev pub invariant-loop-first : goal.invariant-loop-first
invariant-loop-first l = Adds l.initial.pairs (IsGiven (take l.first-index l.more) (GivesAdded l.set l.smaller)) l.pairs
