-- Laws of updates in place.
use Rattle.std.specs.Prelude.{◌≡◌, ℕ, List, [], IsTrue}
use Rattle.flat_core.specs.Members.{is_in}
use Rattle.flat_core.specs.System.{System, IsProper, OutputsRun}
use Rattle.flat_core.specs.WellFormed.{IsWellFormed}
use Rattle.alias_rules.specs.Uses.{IsStored, AreUpdates}
use Rattle.alias_rules.specs.Roots.{IsRoot}
use Rattle.alias_rules.specs.Sharing.{Shares, Alias}
use Rattle.alias_rules.specs.Bypass.{Bypasses}
use Rattle.alias_rules.specs.Conflict.{IsFirstKept, IsFirstNotOverwritten, StandsBefore}
use Rattle.alias_rules.specs.Fine.{IsFine, IsListed, IsFinePlan, IsTakenPlan}
use Rattle.alias_rules.specs.Steps.{IsLeastOrderBy}

-- sharing is of stored variables
pub record AreStored (s : System) (v w : ℕ) : Type 0 where
  pub first : IsStored s v
  pub second : IsStored s w

abbrev pub SharingIsOfStored : Type 0
SharingIsOfStored = (s : System) (set : List ℕ) (v w : ℕ) → Shares s set v w → AreStored s v w

-- stored variables share where they have roots that alias
abbrev pub AliasedRootsShare : Type 0
AliasedRootsShare =
    (s : System) (set : List ℕ) (r q v w : ℕ) →
    IsStored s v →
    IsStored s w →
    IsRoot s set r v →
    IsRoot s set q w →
    Alias s set r q →
    Shares s set v w

abbrev pub AliasTurns : Type 0
AliasTurns = (s : System) (set : List ℕ) (r q : ℕ) → Alias s set r q → Alias s set q r

-- no update of the set bypasses itself
abbrev pub NoneBypassesItself : Type 0
NoneBypassesItself = (s : System) (set : List ℕ) (y : ℕ) → IsTrue (is_in set y) → Bypasses s set y y → ⊥

-- at most one conflict is the first
pub record AreSame (y x z w : ℕ) : Type 0 where
  pub update : y ≡ z
  pub other : x ≡ w

abbrev pub OneIsKeptFirst : Type 0
OneIsKeptFirst = (s : System) (set : List ℕ) (y x z w : ℕ) → IsFirstKept s set y x → IsFirstKept s set z w → AreSame y x z w

abbrev pub OneIsNotOverwrittenFirst : Type 0
OneIsNotOverwrittenFirst =
    (s : System) (set : List ℕ) (y x z w : ℕ) →
    IsFirstNotOverwritten s set y x →
    IsFirstNotOverwritten s set z w →
    AreSame y x z w

-- at most one set is listed
abbrev pub OneListedSet : Type 0
OneListedSet = (s : System) (set other : List ℕ) → IsListed s set → IsListed s other → set ≡ other

-- without updates in place a well-formed system has no conflict
abbrev pub EmptySetIsFine : Type 0
EmptySetIsFine = (s : System) → IsProper s → OutputsRun s → IsWellFormed s → IsFine s []

-- the listed set is one of running updates, and fine
pub record IsFit (s : System) (set : List ℕ) : Type 0 where
  pub updates : AreUpdates s set
  pub fine : IsFine s set

abbrev pub ListedSetIsFit : Type 0
ListedSetIsFit = (s : System) (set : List ℕ) → IsProper s → OutputsRun s → IsWellFormed s → IsListed s set → IsFit s set

-- a set has at most one order in which at each place stands the least step that may stand there
abbrev pub OneLeastOrder : Type 0
OneLeastOrder =
    (s : System) (set xs ys : List ℕ) →
    IsLeastOrderBy s (StandsBefore s set) xs →
    IsLeastOrderBy s (StandsBefore s set) ys →
    xs ≡ ys

-- the plan that is taken is fine, and there is one at most
abbrev pub TakenPlanIsFine : Type 0
TakenPlanIsFine =
    (s : System) (set order : List ℕ) →
    IsProper s →
    OutputsRun s →
    IsWellFormed s →
    IsTakenPlan s set order →
    IsFinePlan s set order

pub record AreOnePlan (set order other others : List ℕ) : Type 0 where
  pub set_is : set ≡ other
  pub order_is : order ≡ others

abbrev pub OneTakenPlan : Type 0
OneTakenPlan =
    (s : System) (set order other others : List ℕ) →
    IsTakenPlan s set order →
    IsTakenPlan s other others →
    AreOnePlan set order other others

-- It cannot be that no plan is taken, nor that a fine set has no least order.
abbrev pub SomePlanIsTaken : Type 0
SomePlanIsTaken = (s : System) → IsProper s → OutputsRun s → IsWellFormed s → ((set order : List ℕ) → IsTakenPlan s set order → ⊥) → ⊥

abbrev pub FineSetHasAnOrder : Type 0
FineSetHasAnOrder =
    (s : System) (set : List ℕ) →
    IsProper s →
    OutputsRun s →
    AreUpdates s set →
    IsFine s set →
    ((order : List ℕ) → IsLeastOrderBy s (StandsBefore s set) order → ⊥) →
    ⊥
