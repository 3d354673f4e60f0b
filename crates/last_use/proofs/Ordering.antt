-- What is answered for the pairs of a set is what the set asks for.
use Rattle.std.proofs.Common.{ℕ, List, Ok, Err}
use Rattle.std.specs.Prelude.{◌↔◌, Result, IfOk, OnOk, IfErr}
use Rattle.translation_order.specs.Graph.{IsAcyclic}
use Rattle.translation_order.specs.declared.order.OrderFault.{OrderFault}
use Rattle.translation_order.specs.declared.order.OrderFault.TheVariants.{CycleOf, Memory}
use Rattle.translation_order.specs.inner.Answer.{OnCycle}
use Rattle.translation_order.specs.Cycle.{IsCycleOfWalk}
use Rattle.translation_order.specs.Order.{Before, IsLeastOrder}
use Rattle.translation_order.proofs.Alike.{path_alike, walk_alike}
use Rattle.register_code.proofs.PlanOrders.{order_alike}

module _ (steps : ℕ) (pairs : List (ℕ × ℕ)) (E : ℕ → ℕ → Type 0) (exact : (a b : ℕ) → Before pairs a b ↔ E a b) where
  to : (a b : ℕ) → Before pairs a b → E a b
  to a b = (exact a b).0

  from : (a b : ℕ) → E a b → Before pairs a b
  from a b = (exact a b).1

  pub order_for : (r : Result (List ℕ) OrderFault) → IfOk r (IsLeastOrder steps (Before pairs)) → IfOk r (IsLeastOrder steps E)
  order_for (Ok all) least = order_alike steps (Before pairs) E to from all least
  order_for (Err f) least = least

  pub acyclic_for : (r : Result (List ℕ) OrderFault) → OnOk r (IsAcyclic (Before pairs)) → OnOk r (IsAcyclic E)
  acyclic_for (Ok all) acyclic = λ a around. acyclic a (path_alike E (Before pairs) from a a around)
  acyclic_for (Err f) acyclic = acyclic

  pub cycle_for : (r : Result (List ℕ) OrderFault) → IfErr r (OnCycle (IsCycleOfWalk steps (Before pairs))) → IfErr r (OnCycle (IsCycleOfWalk steps E))
  cycle_for (Ok all) cycle = cycle
  cycle_for (Err (CycleOf found)) cycle = walk_alike steps (Before pairs) E to from found cycle
  cycle_for (Err Memory) cycle = cycle

  pub cyclic_for : (r : Result (List ℕ) OrderFault) → IfErr r (OnCycle (λ _. IsAcyclic (Before pairs) → ⊥)) → IfErr r (OnCycle (λ _. IsAcyclic E → ⊥))
  cyclic_for (Ok all) cyclic = cyclic
  cyclic_for (Err (CycleOf found)) cyclic = λ acyclic. cyclic (λ a around. acyclic a (path_alike (Before pairs) E to a a around))
  cyclic_for (Err Memory) cyclic = cyclic
