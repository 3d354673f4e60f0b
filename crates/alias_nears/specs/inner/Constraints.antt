-- The pairs of steps, by what asks for them.
use Rattle.std.specs.Prelude.{◌≡◌, ℕ, ◌<◌, Bool, List, Some, IsTrue, slice_get, slice_index}
use Rattle.std.specs.List.{Contains}
use Rattle.flat_core.specs.declared.equation.Output.{Output}
use Rattle.flat_core.specs.inner.Marks.{has_mark}
use Rattle.flat_core.specs.System.{System, runs}
use Rattle.flat_core.specs.WellFormed.{Needs}
use Rattle.translation_order.specs.Order.{Before}
use Rattle.alias_rules.specs.Bypass.{PassesOver, Bypasses}
use Rattle.alias_rules.specs.Conflict.{TakesBefore}
use Rattle.alias_rules.specs.Steps.{print_step}

pub record IsArgumentAt (arguments : List ℕ) (number : ℕ) (running : Bool) (a i : ℕ) : Type 0 where
  pub is : i ≡ number
  pub is_running : IsTrue running
  pub argument : Contains arguments a

pub record IsNeeded (s : System) (a i : ℕ) : Type 0 where
  pub running : IsTrue (runs s i)
  pub needs : Needs s i a

pub record IsPrintOf (s : System) (a x : ℕ) : Type 0 where
  pub place : ℕ
  pub output : Output
  pub is : slice_get s.outputs place ≡ Some output
  pub of : a ≡ output.equation
  pub print : x ≡ print_step s place

-- a is marked, or is a use of a marked variable that counts
pub record IsMarkedBefore (marks : List Bool) (y a b : ℕ) : Type 0 where
  pub marked : IsTrue (has_mark marks a)
  pub is : b ≡ y

pub record IsTakenBefore (pairs : List (ℕ × ℕ)) (marks : List Bool) (y a b : ℕ) : Type 0 where
  pub variable : ℕ
  pub among : Before pairs variable a
  pub marked : IsTrue (has_mark marks variable)
  pub is : b ≡ y

-- an equation other than y writes a marked variable
pub record WritesMarked (marks : List Bool) (y variable a : ℕ) : Type 0 where
  pub marked : IsTrue (has_mark marks variable)
  pub differs : a ≡ y → ⊥

pub record IsWrittenBefore (pairs : List (ℕ × ℕ)) (marks : List Bool) (y a b : ℕ) : Type 0 where
  pub variable : ℕ
  pub among : Before pairs variable a
  pub writes : WritesMarked marks y variable a
  pub is : b ≡ y

-- an equation passes a marked variable on where y has an event
pub record PassesMarked (s : System) (marks : List Bool) (y variable a : ℕ) : Type 0 where
  pub marked : IsTrue (has_mark marks variable)
  pub passes : PassesOver s y a variable → ⊥

-- b is y, and a passes this marked variable on where y has an event
pub record IsPasserOf (s : System) (marks : List Bool) (y variable passer a b : ℕ) : Type 0 where
  pub passes : PassesMarked s marks y variable passer
  pub first : a ≡ passer
  pub is : b ≡ y

-- each marked equation has its pair with y
abbrev pub HasMarkedPairs : List Bool → ℕ → List (ℕ × ℕ) → Type 0
HasMarkedPairs marks y pairs = (a : ℕ) → IsTrue (has_mark marks a) → Before pairs a y

pub record IsPassedBefore (s : System) (pairs : List (ℕ × ℕ)) (marks : List Bool) (y a b : ℕ) : Type 0 where
  pub variable : ℕ
  pub among : Before pairs variable a
  pub passes : PassesMarked s marks y variable a
  pub is : b ≡ y

pub record IsPrintedBefore (s : System) (marks : List Bool) (y a b : ℕ) : Type 0 where
  pub place : ℕ
  pub output : Output
  pub output_is : slice_get s.outputs place ≡ Some output
  pub marked : IsTrue (has_mark marks output.equation)
  pub print : a ≡ print_step s place
  pub is : b ≡ y

-- one of the first updates of the set asks for this pair
pub record IsAskedFor (s : System) (set : List ℕ) (Asks : ℕ → ℕ → ℕ → Type 0) (bound a b : ℕ) : Type 0 where
  pub place : ℕ
  pub low : place < bound
  pub asks : Asks (slice_index set place) a b

-- update y of the set asks for this pair
pub data StandsBeforeUpdate (s : System) (set : List ℕ) (y a b : ℕ) : Type 0 where
  bypasses : Bypasses s set y a → b ≡ y → StandsBeforeUpdate s set y a b
  takes : (x : ℕ) → Bypasses s set y x → TakesBefore s y x a → b ≡ y → StandsBeforeUpdate s set y a b
