-- The answers other than an order.
use Rattle.std.specs.Prelude.{ℕ, List}
use Rattle.translation_order.specs.declared.order.OrderFault.{OrderFault}
use Rattle.translation_order.specs.declared.order.OrderFault.TheVariants.{CycleOf, Memory}

-- what holds of the cycle, where it is one that is answered
abbrev pub OnCycle : (List ℕ → Type 0) → OrderFault → Type 0
OnCycle P (CycleOf steps) = P steps
OnCycle P Memory = Unit {0}
