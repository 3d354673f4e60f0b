use Rattle.std.proofs.Common.{ℕ, [], Contains, take}
use Rattle.std.specs.Prelude.{IsTrue}
use Rattle.trigger_starts.specs.inner.Rules.{AreReady, is_marked}
use Rattle.trigger_starts.proofs.needed.needed.Given as goal

abbrev pub invariant-loop-step : goal.invariant-loop-step
invariant-loop-step l = record {
  ready : AreReady l.rules [] l.steps;
  there : (x : ℕ) → Contains (take l.step-index l.order) x → IsTrue (is_marked l.marks.items x) → Contains l.steps x;
  from : (x : ℕ) → Contains l.steps x → Contains (take l.step-index l.order) x;
}
