use Rattle.std.proofs.Common.{take}
use Rattle.alias_paths.specs.inner.Pairs.{Adds, IsGiven}
use Rattle.alias_paths.proofs.Sharers.{GivesStore}
use Rattle.alias_paths.proofs.sharing.push_stores.Given as goal

abbrev pub invariant-loop-variable : goal.invariant-loop-variable
invariant-loop-variable l = Adds l.initial.pairs (IsGiven (take l.variable-index l.lasts) (GivesStore l.count)) l.pairs
