use Rattle.std.proofs.Common.{◌≡◌, ◌<◌, ◌||◌, ℕ, false, drop, length, slice_index_or}
use Rattle.flat_core.specs.Members.{is_in}
use Rattle.event_why.proofs.used.mark_named.Given as goal

abbrev pub invariant-loop-n : goal.invariant-loop-n
invariant-loop-n l = (k : ℕ) → k < length l.marks → (is_in (drop l.n-index l.by) k || slice_index_or l.marks k false) ≡ (is_in l.by k || slice_index_or l.initial.marks k false)
