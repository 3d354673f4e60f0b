use Rattle.std.proofs.Common.{◌≡◌, ℕ, ◌<◌, true}
use Rattle.translation_order.specs.inner.Searching.{visit_of}
use Rattle.translation_order.specs.declared.search.Visit.TheVariants.{Done}
use Rattle.translation_order.proofs.on_cycle.first_marked.Given as goal

abbrev pub invariant-loop-node : goal.invariant-loop-node
invariant-loop-node l = (x : ℕ) → x < l.node → visit_of l.visits x ≡ Done true → ⊥
