use Rattle.std.proofs.Common.{◌≡◌, ℕ, vec_len, ◌+◌, ◌-◌}
use Rattle.expr_types.specs.inner.Shown.{kind_at}
use Rattle.expr_types.proofs.kinds.make_room.Given as goal

abbrev pub invariant-loop-kinds : goal.invariant-loop-kinds
invariant-loop-kinds l = (i : ℕ) → kind_at l.kinds.items i ≡ kind_at l.initial.kinds.items i

abbrev pub decreases-loop-kinds : goal.decreases-loop-kinds
decreases-loop-kinds l = l.number + 1 - vec_len l.kinds
