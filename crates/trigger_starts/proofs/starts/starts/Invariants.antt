use Rattle.std.proofs.Common.{◌≡◌, ℕ, ◌<◌, ◌↔◌, length}
use Rattle.trigger_starts.specs.inner.AtomLists.{atoms_at}
use Rattle.trigger_starts.specs.inner.Kept.{StartsBy}
use Rattle.trigger_starts.specs.inner.Rules.{is_marked}
use Rattle.trigger_starts.specs.inner.Truth.{Started}
use Rattle.trigger_starts.proofs.starts.starts.Given as goal

abbrev pub invariant-loop-index : goal.invariant-loop-index
invariant-loop-index l = record {
  one_each : length l.starts.items ≡ l.index;
  by : (x : ℕ) → x < l.index → Started l.starts.items x ↔ StartsBy (atoms_at l.atoms.items x) (is_marked l.firing.items x);
}
