-- Lists of pairs that stand for a relation.
use Rattle.std.specs.Prelude.{◌≡◌, ◌↔◌, ◌⊎◌, ℕ, ◌<◌, Bool, List, IsTrue}
use Rattle.std.specs.List.{Contains}
use Rattle.translation_order.specs.Order.{Before}

-- the pairs are those of the relation
pub record ArePairs (P : ℕ → ℕ → Type 0) (pairs : List (ℕ × ℕ)) : Type 0 where
  pub each : (a b : ℕ) → Before pairs a b ↔ P a b

-- the new list has the old pairs and those of the relation
pub record Adds (old : List (ℕ × ℕ)) (P : ℕ → ℕ → Type 0) (new : List (ℕ × ℕ)) : Type 0 where
  pub kept : (a b : ℕ) → Before old a b → Before new a b
  pub there : (a b : ℕ) → P a b → Before new a b
  pub from : (a b : ℕ) → Before new a b → Before old a b ⊎ P a b

-- the pair of x and y, if it is wanted
pub record IsWanted (wanted : Bool) (x y a b : ℕ) : Type 0 where
  pub is_wanted : IsTrue wanted
  pub first : a ≡ x
  pub second : b ≡ y

-- a pair that some item gives
pub record IsGiven {X : Type 0} (items : List X) (Gives : X → ℕ → ℕ → Type 0) (a b : ℕ) : Type 0 where
  pub item : X
  pub among : Contains items item
  pub gives : Gives item a b

-- a pair of the relation whose key is below a bound
pub record IsKeyBelow (key : ℕ → ℕ → ℕ) (bound : ℕ) (P : ℕ → ℕ → Type 0) (a b : ℕ) : Type 0 where
  pub low : key a b < bound
  pub has : P a b

-- each pair with first and second in each other's place
pub record AreTurned (pairs turned : List (ℕ × ℕ)) : Type 0 where
  pub each : (a b : ℕ) → Before turned a b ↔ Before pairs b a
