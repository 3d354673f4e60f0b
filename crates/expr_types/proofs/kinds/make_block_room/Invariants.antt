use Rattle.std.proofs.Common.{◌≡◌, ℕ, vec_len, ◌+◌, ◌-◌}
use Rattle.expr_types.specs.inner.Shown.{kinds_at}
use Rattle.expr_types.proofs.kinds.make_block_room.Given as goal

abbrev pub invariant-loop-alloc : goal.invariant-loop-alloc
invariant-loop-alloc l = (i k : ℕ) → kinds_at l.locals.items i k ≡ kinds_at l.initial.locals.items i k

abbrev pub decreases-loop-alloc : goal.decreases-loop-alloc
decreases-loop-alloc l = l.number + 1 - vec_len l.locals
