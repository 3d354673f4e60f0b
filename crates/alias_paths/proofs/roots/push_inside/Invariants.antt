use Rattle.std.proofs.Common.{take}
use Rattle.alias_paths.specs.inner.Pairs.{Adds, IsGiven}
use Rattle.alias_paths.proofs.Rooting.{GivesInside}
use Rattle.alias_paths.proofs.roots.push_inside.Given as goal

abbrev pub invariant-loop-first : goal.invariant-loop-first
invariant-loop-first l = Adds l.initial.pairs (IsGiven (take l.first-index l.more) (GivesInside l.set)) l.pairs
