use Rattle.std.proofs.Common.{ℕ, ◌<◌, Contains}
use Rattle.translation_order.proofs.steps.Steps.below.Given as goal

abbrev pub invariant-loop-node : goal.invariant-loop-node
invariant-loop-node l = ((x : ℕ) → Contains l.numbers.items x → x < l.node) × ((x : ℕ) → x < l.node → Contains l.numbers.items x)
