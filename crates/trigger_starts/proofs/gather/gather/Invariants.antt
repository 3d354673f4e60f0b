use Rattle.std.proofs.Common.{◌≡◌, ℕ, Contains, length, take}
use Rattle.trigger_rules.specs.Formula.{HasAtom, Of}
use Rattle.trigger_starts.specs.inner.AtomLists.{HasAtoms, atoms_at}
use Rattle.trigger_starts.specs.inner.Rules.{ruled}
use Rattle.trigger_starts.specs.inner.Truth.{Started}
use Rattle.trigger_starts.proofs.gather.gather.Given as goal

abbrev pub invariant-loop-step : goal.invariant-loop-step
invariant-loop-step l = record {
  one_each : length l.all.items ≡ length l.rules;
  atoms : (x : ℕ) → Contains (take l.step-index l.order) x → HasAtoms (λ a. HasAtom (ruled l.at_zero l.rules) (Started l.starts) a (Of x)) (atoms_at l.all.items x);
}
