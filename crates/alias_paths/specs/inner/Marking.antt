-- Marks of numbers.
use Rattle.std.specs.Prelude.{◌≡◌, ◌↔◌, ◌⊎◌, ℕ, Bool, List, length, IsTrue}
use Rattle.std.specs.List.{Contains}
use Rattle.flat_core.specs.inner.Marks.{has_mark}
use Rattle.translation_order.specs.Order.{Before}

-- so many marks, of just the numbers with this property
pub record AreJust (count : ℕ) (P : ℕ → Type 0) (marks : List Bool) : Type 0 where
  pub one_each : length marks ≡ count
  pub each : (x : ℕ) → IsTrue (has_mark marks x) ↔ P x

-- the new marks are the old ones and those of the numbers with this property
pub record AddsMarks (old : List Bool) (P : ℕ → Type 0) (new : List Bool) : Type 0 where
  pub one_each : length new ≡ length old
  pub kept : (x : ℕ) → IsTrue (has_mark old x) → IsTrue (has_mark new x)
  pub there : (x : ℕ) → P x → IsTrue (has_mark new x)
  pub from : (x : ℕ) → IsTrue (has_mark new x) → IsTrue (has_mark old x) ⊎ P x

-- x is wanted
pub record IsChosen (wanted : Bool) (number x : ℕ) : Type 0 where
  pub is_wanted : IsTrue wanted
  pub is : x ≡ number

-- x is the first of a pair whose second is marked
pub record HasMarkedSecond (pairs : List (ℕ × ℕ)) (seconds : List Bool) (x : ℕ) : Type 0 where
  pub second : ℕ
  pub among : Before pairs x second
  pub marked : IsTrue (has_mark seconds second)

-- x is the second of a pair whose first is marked
pub record HasMarkedFirst (pairs : List (ℕ × ℕ)) (firsts : List Bool) (x : ℕ) : Type 0 where
  pub first : ℕ
  pub among : Before pairs first x
  pub marked : IsTrue (has_mark firsts first)

-- a number that some item marks
pub record IsMarkedBy {X : Type 0} (items : List X) (Marks : X → ℕ → Type 0) (x : ℕ) : Type 0 where
  pub item : X
  pub among : Contains items item
  pub marks : Marks item x
