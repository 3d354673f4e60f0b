use Rattle.std.proofs.Common.{take}
use Rattle.std.specs.Prelude.{IsTrue}
use Rattle.flat_core.specs.inner.Marks.{has_mark}
use Rattle.alias_paths.specs.inner.Pairs.{Adds, IsGiven}
use Rattle.alias_nears.proofs.Constraining.{GivesTaker}
use Rattle.alias_nears.proofs.steps.push_readers.Given as goal

abbrev pub invariant-loop-variable : goal.invariant-loop-variable
invariant-loop-variable l = Adds l.initial.pairs (IsGiven (take l.variable-index l.read) (GivesTaker l.marks l.update (λ v a. IsTrue (has_mark l.marks v)))) l.pairs
