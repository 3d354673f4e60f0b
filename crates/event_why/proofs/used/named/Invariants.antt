use Rattle.std.proofs.Common.{◌≡◌, ◌<◌, ◌||◌, ℕ, false, drop, length, slice_index_or}
use Rattle.event_why.specs.inner.Used.{is_named}
use Rattle.event_why.proofs.used.named.Given as goal

abbrev pub invariant-loop-step : goal.invariant-loop-step
invariant-loop-step l = record {
  count : length l.marks.items ≡ length l.steps;
  each : (k : ℕ) → k < length l.steps → (is_named (drop l.step-index l.steps) k || slice_index_or l.marks.items k false) ≡ is_named l.steps k;
}
