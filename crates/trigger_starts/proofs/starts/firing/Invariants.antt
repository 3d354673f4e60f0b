use Rattle.std.proofs.Common.{◌≡◌, length, take}
use Rattle.trigger_starts.specs.inner.Kept.{AreFiring}
use Rattle.trigger_starts.specs.inner.Truth.{assignment_of}
use Rattle.trigger_starts.proofs.starts.firing.Given as goal

abbrev pub invariant-loop-step : goal.invariant-loop-step
invariant-loop-step l = record {
  one_each : length l.marks.items ≡ length l.rules;
  exact : AreFiring l.rules l.starts (take l.step-index l.order) (assignment_of l.fn.given) l.marks.items;
}
