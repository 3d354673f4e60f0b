-- What is chosen of the updates below a number.
use Rattle.std.specs.Prelude.{ℕ, ◌<◌, ◌≤◌, ◌↔◌, List, length, IsTrue, Option, MatchOption}
use Rattle.std.specs.List.{All}
use Rattle.std.specs.List.Sorted.{IsStrictlyIncreasing}
use Rattle.flat_core.specs.Members.{is_in}
use Rattle.flat_core.specs.System.{System}
use Rattle.alias_rules.specs.inner.Below.{IsListedBelow}
use Rattle.alias_rules.specs.Fine.{IsFine, with_tried}
use Rattle.alias_rules.specs.Outside.{IsOutside}
use Rattle.alias_nears.specs.declared.reason.Reason.{Reason}
use Rattle.alias_nears.specs.inner.Nears.{AreNears}
use Rattle.last_use.specs.declared.choice.Chosen.{Chosen}
use Rattle.last_use.specs.declared.choice.Tried.{Tried}
use Rattle.last_use.specs.declared.trial.InPlace.{InPlace}
use Rattle.last_use.specs.Reasons.{IsReason, updates_of}

-- y is below n, and an update outside the set
pub record IsOutsideBelow (s : System) (n : ℕ) (set : List ℕ) (y : ℕ) : Type 0 where
  pub low : y < n
  pub outside : IsOutside s set y

pub record IsChosenBelow (s : System) (n : ℕ) (set : List ℕ) (reasons : List (ℕ × Reason)) : Type 0 where
  pub listed : IsListedBelow s n set
  pub ascending : IsStrictlyIncreasing (updates_of reasons)
  pub outside : (y : ℕ) → IsTrue (is_in (updates_of reasons) y) ↔ IsOutsideBelow s n set y
  pub each : All (λ p. IsReason s (with_tried set p.0) p.1) reasons

-- why a set is not fine, if it is not
abbrev pub IsRefusal : System → List ℕ → Option Reason → Type 0
IsRefusal s set refusal = MatchOption refusal (IsFine s set) (IsReason s set)

-- what is near the updates of a set is known
abbrev pub HasNears : System → InPlace → Type 0
HasNears s p = AreNears s p.set p.nears

pub record IsChosen (s : System) (n : ℕ) (c : Chosen) : Type 0 where
  pub below : IsChosenBelow s n c.in_place.set c.reasons
  pub nears : HasNears s c.in_place

-- what is chosen when more of the equations were tried
pub record IsTriedFrom (s : System) (from : ℕ) (t : Tried) : Type 0 where
  pub begun : from < t.end
  pub within : t.end ≤ length s.equations
  pub chosen : IsChosen s t.end t.chosen
