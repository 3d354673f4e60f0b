-- Orders of steps by some pairs are orders by fewer.
use Rattle.std.proofs.Common.{ℕ, List}
use Rattle.flat_core.specs.System.{System}
use Rattle.alias_rules.specs.Conflict.{StandsBefore, needed}
use Rattle.alias_rules.specs.Steps.{MustPrecede, IsOrderBy}

pub order_by_fewer : (s : System) (E F : ℕ → ℕ → Type 0) → ((a b : ℕ) → F a b → E a b) → (order : List ℕ) → IsOrderBy s E order → IsOrderBy s F order
order_by_fewer s E F fewer order ordered = record {
  once = ordered.once;
  steps = ordered.steps;
  agrees = λ a b pair. ordered.agrees a b (fewer a b pair);
}

-- where updates happen in place, each step stands after those that it needs all the same
pub needed_order : (s : System) (set order : List ℕ) → IsOrderBy s (StandsBefore s set) order → IsOrderBy s (MustPrecede s) order
needed_order s set = order_by_fewer s (StandsBefore s set) (MustPrecede s) (λ a b must. needed must)
