-- Decision trees over numbered variables: what a node of a diagram stands for.
use Rattle.std.specs.Prelude.{◌≡◌, ◌==◌, ℕ, ◌<◌, Bool, if◌then◌else◌}

-- which variables are true
abbrev pub Valuation : Type 0
Valuation = ℕ → Bool

-- `Fork x low high` is low where x is false, and high where it is true.
pub data DecisionTree : Type 0 where
  Leaf : Bool → DecisionTree
  Fork : ℕ → DecisionTree → DecisionTree → DecisionTree

abbrev pub value : Valuation → DecisionTree → Bool
value v (Leaf b) = b
value v (Fork x low high) = if v x then value v high else value v low

-- the first variable of a tree comes after x
abbrev pub IsAfter : ℕ → DecisionTree → Type 0
IsAfter x (Leaf b) = Unit {0}
IsAfter x (Fork y low high) = x < y

-- On each way down the variables come in their order, and each fork has two different sides.
abbrev pub IsCanonical : DecisionTree → Type 0
IsCanonical (Leaf b) = Unit {0}
IsCanonical (Fork x low high) = IsAfter x low × IsAfter x high × (low ≡ high → ⊥) × IsCanonical low × IsCanonical high

-- both are true in the same valuations
abbrev pub Agree : DecisionTree → DecisionTree → Type 0
Agree t u = (v : Valuation) → value v t ≡ value v u

-- the valuation with another value at one variable
abbrev pub with_value : Valuation → ℕ → Bool → Valuation
with_value v x b y = if y == x then b else v y
