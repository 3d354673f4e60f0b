use Rattle.std.proofs.Common.{ℕ, ◌<◌, Some}
use Rattle.std.specs.Prelude.{◌≢◌}
use Rattle.delay_timers.specs.inner.Tournament.{time_at}
use Rattle.delay_timers.proofs.tree.first_leaf_at.Given as goal

abbrev pub invariant-loop-leaf : goal.invariant-loop-leaf
invariant-loop-leaf l = (d : ℕ) → d < l.leaf-index → time_at l.nodes l.delays d ≢ Some l.at
