-- What the parts of a question about content answer.
use Rattle.std.specs.Prelude.{◌≡◌, ◌↔◌, ◌⊎◌, ℕ, Bool, List, [], ◌∷◌, Option, MatchOption, IsTrue}
use Rattle.flat_core.specs.declared.equation.Equation.{Equation}
use Rattle.flat_core.specs.declared.equation.Op.TheVariants as op
use Rattle.translation_order.specs.Graph.{Walk}
use Rattle.flat_core.specs.inner.Marks.{has_mark}
use Rattle.flat_core.specs.System.{System}
use Rattle.translation_order.specs.Order.{Before}
use Rattle.trigger_rules.specs.Question.{Implies, Together}
use Rattle.alias_rules.specs.Uses.{IsVariable, IsLast, IsWritten}
use Rattle.alias_rules.specs.Roots.{Carries, IsOrigin, IsRoot, ComesFromLast}
use Rattle.alias_rules.specs.Sharing.{Shares, Alias}
use Rattle.alias_rules.specs.Bypass.{PassesOver, GoesAround}
use Rattle.alias_paths.specs.inner.Pairs.{ArePairs}
use Rattle.alias_paths.specs.inner.Marking.{AddsMarks}
use Rattle.alias_paths.specs.inner.Search.{AreReached}

-- the equation merges the second after another
pub record IsMergeAfter (e : Equation) (other second : ℕ) : Type 0 where
  pub merges : e.op ≡ op.Merge
  pub args_are : e.args ≡ other ∷ second ∷ []
  pub differ : other ≡ second → ⊥

-- the first argument of a merge with this second one, if it is another
abbrev pub IsOtherOfMerge : Equation → ℕ → Option ℕ → Type 0
IsOtherOfMerge e second r = MatchOption r ((other : ℕ) → IsMergeAfter e other second → ⊥) (λ other. IsMergeAfter e other second)

-- an edge from x to i goes around update y, if it is a carrier edge
pub record LeadsAround (s : System) (y x i : ℕ) : Type 0 where
  pub avoids : i ≡ y → ⊥
  pub enters : PassesOver s y i x → ⊥

-- x is the second of this pair, which leads around update y
pub record IsSecondAround (s : System) (y first second x : ℕ) : Type 0 where
  pub is : x ≡ second
  pub leads : LeadsAround s y first second

-- one of these pairs that leads around update y
pub record IsPairAround (s : System) (y : ℕ) (pairs : List (ℕ × ℕ)) (x i : ℕ) : Type 0 where
  pub among : Before pairs x i
  pub leads : LeadsAround s y x i

-- what is reached around update y along the carrier edges of any set
abbrev pub AreReachedAround : System → ℕ → List (ℕ × ℕ) → List Bool → List Bool → Type 0
AreReachedAround s y carriers begins reached =
    (set : List ℕ) → ArePairs (Carries s set) carriers → AreReached (GoesAround s set y) begins reached

-- v shares with one whose last value is a root of what update y writes
pub record SharesWithLast (s : System) (set : List ℕ) (y v : ℕ) : Type 0 where
  pub source : ℕ
  pub written : IsWritten s source y
  pub last : ℕ
  pub comes : ComesFromLast s set source last
  pub shares : Shares s set v last

-- o is the last value of a marked variable
pub record IsLastOfMarked (s : System) (marks : List Bool) (o : ℕ) : Type 0 where
  pub variable : ℕ
  pub last : IsLast s variable o
  pub marked : IsTrue (has_mark marks variable)

abbrev pub AreAliased : System → List Bool → List Bool → List Bool → Type 0
AreAliased s roots sharers begins = AddsMarks roots (IsLastOfMarked s sharers) begins

-- content that begins at o may be that of the source of update y
pub record IsBegin (s : System) (set : List ℕ) (y o : ℕ) : Type 0 where
  pub source : ℕ
  pub written : IsWritten s source y
  pub root : ℕ
  pub source_root : IsRoot s set root source
  pub begins : IsOrigin s set o
  pub aliases : Alias s set o root

-- a walk leads to x from what was found before, or from where it goes on
pub record IsReachedOn (E : ℕ → ℕ → Type 0) (found begins : List Bool) (x : ℕ) : Type 0 where
  pub start : ℕ
  pub is_start : IsTrue (has_mark found start) ⊎ IsTrue (has_mark begins start)
  pub walk : Walk E start x

abbrev pub AreReachedOn : (ℕ → ℕ → Type 0) → List Bool → List Bool → List Bool → Type 0
AreReachedOn E found begins reached = (x : ℕ) → IsTrue (has_mark reached x) ↔ IsReachedOn E found begins x

-- what follows on what was found was found too, or is where it goes on
abbrev pub AreClosedOn : (ℕ → ℕ → Type 0) → List Bool → List Bool → Type 0
AreClosedOn E found begins = (x a : ℕ) → IsTrue (has_mark found x) → E x a → IsTrue (has_mark found a) ⊎ IsTrue (has_mark begins a)

-- content that begins as that of the source of update y comes to x around y
pub record IsNear (s : System) (set : List ℕ) (y x : ℕ) : Type 0 where
  pub source : ℕ
  pub written : IsWritten s source y
  pub root : ℕ
  pub source_root : IsRoot s set root source
  pub origin : ℕ
  pub begins : IsOrigin s set origin
  pub aliases : Alias s set origin root
  pub around : Walk (GoesAround s set y) origin x

pub record IsBeside (s : System) (y x : ℕ) : Type 0 where
  pub variable : IsVariable s x
  pub together : Together s y x

pub record IsMarkedBeside (s : System) (y : ℕ) (marks : List Bool) (x : ℕ) : Type 0 where
  pub marked : IsTrue (has_mark marks x)
  pub beside : IsBeside s y x

-- x was not found before
pub record IsNewBeside (s : System) (y : ℕ) (found marks : List Bool) (x : ℕ) : Type 0 where
  pub new : IsTrue (has_mark found x) → ⊥
  pub beside : IsMarkedBeside s y marks x

pub record IsMarkedUnimplied (s : System) (y : ℕ) (marks : List Bool) (v : ℕ) : Type 0 where
  pub marked : IsTrue (has_mark marks v)
  pub not_implied : Implies s y v → ⊥

pub record AreMarkedInBoth (first second : List Bool) (x : ℕ) : Type 0 where
  pub in_first : IsTrue (has_mark first x)
  pub in_second : IsTrue (has_mark second x)
