use Rattle.std.proofs.Common.{ℕ, ◌<◌}
use Rattle.std.specs.Prelude.{IsTrue}
use Rattle.flat_core.specs.inner.Marks.{has_mark}
use Rattle.alias_nears.proofs.kept.least.Given as goal

abbrev pub invariant-loop-index : goal.invariant-loop-index
invariant-loop-index l = (x : ℕ) → x < l.index → IsTrue (has_mark l.marks x) → ⊥
