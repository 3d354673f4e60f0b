use Rattle.std.proofs.Common.{◌≡◌, ◌<◌, ◌||◌, ℕ, false, drop, length, slice_index_or}
use Rattle.flat_core.specs.Members.{is_in}
use Rattle.event_why.specs.inner.Pruned.{some_of}
use Rattle.event_why.proofs.prune.mark_known.Given as goal

abbrev pub invariant-loop-number : goal.invariant-loop-number
invariant-loop-number l =
    (k : ℕ) → k < length l.marks → (is_in (some_of (drop l.number-index l.known.numbers.items)) k || slice_index_or l.marks k false) ≡ (is_in (some_of l.known.numbers.items) k || slice_index_or l.initial.marks k false)
