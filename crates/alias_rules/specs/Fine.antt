-- Sets of updates that may happen in place, and the one that is taken.
use Rattle.std.specs.Prelude.{ℕ, ◌↔◌, nat_lt, List, [], ◌∷◌, ◌++◌, IsTrue}
use Rattle.std.specs.List.{filter}
use Rattle.std.specs.List.Sorted.{IsStrictlyIncreasing}
use Rattle.translation_order.specs.Graph.{IsAcyclic}
use Rattle.flat_core.specs.Members.{is_in}
use Rattle.flat_core.specs.System.{System}
use Rattle.alias_rules.specs.Uses.{IsUpdate, AreUpdates}
use Rattle.alias_rules.specs.Conflict.{NoneKept, AllOverwritten, StandsBefore}
use Rattle.alias_rules.specs.Steps.{IsOrderBy, IsLeastOrderBy}

-- all updates of the set can happen in place together
pub record IsFine (s : System) (set : List ℕ) : Type 0 where
  pub none_kept : NoneKept s set
  pub all_overwritten : AllOverwritten s set
  pub acyclic : IsAcyclic (StandsBefore s set)

-- the set in which update y is tried: those of the set below y, and y
abbrev pub with_tried : List ℕ → ℕ → List ℕ
with_tried set y = filter (λ x. nat_lt x y) set ++ y ∷ []

-- The listed set. Updates are tried by number: each is in the set exactly where those before it, with it, are fine.
pub record IsListed (s : System) (set : List ℕ) : Type 0 where
  pub ascending : IsStrictlyIncreasing set
  pub each : (y : ℕ) → IsTrue (is_in set y) ↔ (IsUpdate s y × IsFine s (with_tried set y))

-- a set of updates and an order of steps that lets them happen in place
pub record IsFinePlan (s : System) (set order : List ℕ) : Type 0 where
  pub updates : AreUpdates s set
  pub fine : IsFine s set
  pub ordered : IsOrderBy s (StandsBefore s set) order

-- the one that is taken
pub record IsTakenPlan (s : System) (set order : List ℕ) : Type 0 where
  pub listed : IsListed s set
  pub ordered : IsLeastOrderBy s (StandsBefore s set) order
