-- The places of steps in an order.
use Rattle.std.specs.Prelude.{◌≡◌, ℕ, ◌<◌, Bool, false, List, length, Option}
use Rattle.std.specs.Prelude.{Some, None, IsTrue, MatchOption, nat_lt, slice_get, slice_index_or, eqb}
use Rattle.std.specs.List.{Contains, IsDistinct}
use Rattle.flat_core.specs.System.{System}
use Rattle.translation_order.specs.Order.{Before}
use Rattle.alias_rules.specs.Steps.{is_step, step_count}

-- steps alone, each once
pub record AreSteps (s : System) (order : List ℕ) : Type 0 where
  pub once : IsDistinct eqb order
  pub steps : (x : ℕ) → Contains order x → IsTrue (is_step s x)

-- the place of a number, if it has one
abbrev pub place_in : List (Option ℕ) → ℕ → Option ℕ
place_in places x = slice_index_or places x None

-- the first n of an order are steps, and the places are theirs
pub record ArePlaces (s : System) (order : List ℕ) (n : ℕ) (places : List (Option ℕ)) : Type 0 where
  pub one_each : length places ≡ step_count s
  pub within : (x k : ℕ) → place_in places x ≡ Some k → k < n
  pub standing : (x k : ℕ) → place_in places x ≡ Some k → slice_get order k ≡ Some x
  pub placed : (x k : ℕ) → k < n → slice_get order k ≡ Some x → place_in places x ≡ Some k
  pub steps : (x k : ℕ) → k < n → slice_get order k ≡ Some x → IsTrue (is_step s x)

abbrev pub ArePlacesOrNone : System → List ℕ → Option (List (Option ℕ)) → Type 0
ArePlacesOrNone s order r = MatchOption r (AreSteps s order → ⊥) (ArePlaces s order (length order))

-- a step that has no place
pub record IsUnplaced (s : System) (places : List (Option ℕ)) (x : ℕ) : Type 0 where
  pub step : IsTrue (is_step s x)
  pub low : x < step_count s
  pub none : place_in places x ≡ None

abbrev pub AllStand : System → List (Option ℕ) → Type 0
AllStand s places = (x : ℕ) → IsUnplaced s places x → ⊥

-- both have a place, the second a later one
abbrev pub is_before : Option ℕ → Option ℕ → Bool
is_before (Some first) (Some second) = nat_lt first second
is_before _ _ = false

abbrev pub stands_before : List (Option ℕ) → ℕ → ℕ → Bool
stands_before places a b = is_before (place_in places a) (place_in places b)

abbrev pub AllAgree : List (Option ℕ) → List (ℕ × ℕ) → Type 0
AllAgree places pairs = (a b : ℕ) → Before pairs a b → IsTrue (stands_before places a b)

-- each step has a place, and the places agree with the pairs
pub record IsWhole (s : System) (places : List (Option ℕ)) (pairs : List (ℕ × ℕ)) : Type 0 where
  pub all_stand : AllStand s places
  pub agree : AllAgree places pairs
