use Rattle.std.proofs.Common.{ℕ, ◌<◌}
use Rattle.call_limits.specs.inner.Depths.{IsDeep}
use Rattle.call_limits.proofs.depth.first_deep.Given as goal

abbrev pub invariant-loop-item : goal.invariant-loop-item
invariant-loop-item l = (x : ℕ) → x < l.item → IsDeep l.macros l.functions x → ⊥
