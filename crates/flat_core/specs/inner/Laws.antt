-- Laws of solutions.
use Rattle.std.specs.Prelude.{◌≡◌, ℕ, ◌<◌, false, List, IsTrue}
use Rattle.flat_core.specs.Stream.{Stream}
use Rattle.flat_core.specs.Case.{Streams}
use Rattle.flat_core.specs.Events.{Inputs}
use Rattle.flat_core.specs.System.{System, runs, IsProper}
use Rattle.flat_core.specs.WellFormed.{IsRanked, IsWellFormed}
use Rattle.flat_core.specs.inner.Dependency.{with_all, IsOrdered}
use Rattle.flat_core.specs.Solution.{Solves, IsSolution}

-- two solutions of a system in dependency order agree at each time below the bound
abbrev pub SolutionsAgree : Type 0
SolutionsAgree =
    (s : System) (inputs : Inputs) (rank : ℕ → ℕ) (bound : ℕ) (z w : Streams) →
    IsProper s →
    IsRanked s rank →
    Solves s inputs bound z →
    Solves s inputs bound w →
    (i : ℕ) → IsTrue (runs s i) →
    (t : ℕ) → t < bound →
    z i t ≡ w i t

-- a system with an order of its running equations in which each comes after what it uses has a solution
abbrev pub SolutionsExist : Type 0
SolutionsExist =
    (s : System) (inputs : Inputs) (order : List ℕ) (bound : ℕ) →
    IsOrdered s (λ i. false) order →
    ((i : ℕ) → IsTrue (runs s i) → IsTrue (with_all order (λ j. false) i)) →
    (z : Streams) × Solves s inputs bound z

-- a well-formed system has a solution below each bound, and two agree: as functions of time, and as lists
pub record HasOneSolution (s : System) (inputs : Inputs) (bound : ℕ) : Type 0 where
  pub exists : (z : Streams) × Solves s inputs bound z
  pub agree :
      (z w : Streams) →
      Solves s inputs bound z →
      Solves s inputs bound w →
      (i : ℕ) → IsTrue (runs s i) →
      (t : ℕ) → t < bound →
      z i t ≡ w i t
  pub listed : (streams : List Stream) × IsSolution s inputs bound streams
  pub one : (xs ys : List Stream) → IsSolution s inputs bound xs → IsSolution s inputs bound ys → xs ≡ ys

abbrev pub WellFormedHasOneSolution : Type 0
WellFormedHasOneSolution = (s : System) → IsProper s → IsWellFormed s → (inputs : Inputs) (bound : ℕ) → HasOneSolution s inputs bound
