-- The search for facts, among those that a step names, from which its fact follows.
use Rattle.std.specs.Prelude.{◌≡◌, ◌⊎◌, ℕ, suc, ◌≤◌, List, [], ◌∷◌, ◌++◌, length}
use Rattle.std.specs.List.{AllByRecursion, Contains}
use Rattle.flat_core.specs.Events.{Inputs}
use Rattle.flat_core.specs.System.{System}
use Rattle.why_rules.specs.Facts.{Fact, Gap}
use Rattle.why_rules.specs.Rules.{Follows}
use Rattle.event_why.specs.Check.{HaveSame}

-- a list of just these facts, in some order, has this property
pub record InSomeOrder (P : List Fact → Type 0) (fs : List Fact) : Type 0 where
  pub uses : List Fact
  pub same : HaveSame uses fs
  pub has : P uses

-- a fact follows from these in this order, and is no gap
abbrev pub FollowsSo : System → List ℕ → Inputs → Fact → List Fact → Type 0
FollowsSo s slice p (Gap from to) fs = ⊥
FollowsSo s slice p f fs = Follows s slice p f fs

-- no two are equal
abbrev pub AreDistinct : List Fact → Type 0
AreDistinct [] = Unit {0}
AreDistinct (f ∷ fs) = ¬ Contains fs f × AreDistinct fs

-- a fact is put at the end of others, if it is not among them
abbrev pub IsPutOnce : Fact → List Fact → List Fact → Type 0
IsPutOnce f old new = (Contains old f × (new ≡ old)) ⊎ (¬ Contains old f × (new ≡ old ++ f ∷ []))

-- so many places of the list have a fact that is not among the chosen ones
pub data Lack (chosen : List Fact) : List Fact → ℕ → Type 0 where
  done : Lack chosen [] 0
  chosen_one : {f : Fact} {fs : List Fact} {n : ℕ} → Contains chosen f → Lack chosen fs n → Lack chosen (f ∷ fs) n
  other : {f : Fact} {fs : List Fact} {n : ℕ} → ¬ Contains chosen f → Lack chosen fs n → Lack chosen (f ∷ fs) (suc n)

-- with at most so many more of the named facts, the chosen ones have all that are named, and this property
pub record EndsWell (P : List Fact → Type 0) (named chosen : List Fact) (room : ℕ) : Type 0 where
  pub more : List Fact
  pub few : length more ≤ room
  pub among : AllByRecursion (Contains named) more
  pub all : AllByRecursion (Contains (chosen ++ more)) named
  pub has : P (chosen ++ more)
