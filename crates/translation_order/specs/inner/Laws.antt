-- Laws of orders and cycles.
use Rattle.std.specs.Prelude.{◌≡◌, ℕ, List}
use Rattle.translation_order.specs.Order.{Before, IsLeastOrder}
use Rattle.translation_order.specs.Cycle.{IsCycle, IsCycleOfWalk}

-- at most one list is the order
abbrev pub OneOrder : Type 0
OneOrder =
    (steps : ℕ) (pairs : List (ℕ × ℕ)) (xs ys : List ℕ) →
    IsLeastOrder steps (Before pairs) xs →
    IsLeastOrder steps (Before pairs) ys →
    xs ≡ ys

-- at most one list is the cycle
abbrev pub OneCycle : Type 0
OneCycle =
    (steps : ℕ) (pairs : List (ℕ × ℕ)) (xs ys : List ℕ) →
    IsCycleOfWalk steps (Before pairs) xs →
    IsCycleOfWalk steps (Before pairs) ys →
    xs ≡ ys

-- the cycle of the walk is a cycle
abbrev pub CycleOfWalkIsCycle : Type 0
CycleOfWalkIsCycle =
    (steps : ℕ) (pairs : List (ℕ × ℕ)) (cycle : List ℕ) →
    IsCycleOfWalk steps (Before pairs) cycle →
    IsCycle (Before pairs) cycle
