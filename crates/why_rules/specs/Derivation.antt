-- Derivations: facts that follow each from earlier ones.
use Rattle.std.specs.Prelude.{ℕ, ◌<◌, ◌≤◌, ◌^◌, List, [], ◌∷◌, IsTrue, IsFalse}
use Rattle.std.specs.List.{AllByRecursion, Contains}
use Rattle.flat_core.specs.Complete.{IsFlat}
use Rattle.flat_core.specs.Members.{is_in}
use Rattle.flat_core.specs.System.{System, runs}
use Rattle.flat_core.specs.WellFormed.{IsWellFormed}
use Rattle.flat_core.specs.Stream.{is_fault}
use Rattle.flat_core.specs.Events.{Inputs}
use Rattle.flat_core.specs.Case.{Streams}
use Rattle.flat_core.specs.Solution.{Solves}
use Rattle.flat_slice.specs.Slice.{IsSlice}
use Rattle.why_rules.specs.Facts.{Fact, Says}
use Rattle.why_rules.specs.Rules.{Follows}

module _ (s : System) (slice : List ℕ) (p : Inputs) where
  -- the last fact stands first
  pub data IsDerivation : List Fact → Type 0 where
    empty : IsDerivation []
    more :
        {f : Fact} {fs : List Fact} (uses : List Fact) →
        Follows s slice p f uses →
        AllByRecursion (Contains fs) uses →
        IsDerivation fs →
        IsDerivation (f ∷ fs)

-- no equation of the slice has a fault below the bound
pub record IsSound (slice : List ℕ) (z : Streams) (bound : ℕ) : Type 0 where
  pub none : (i t : ℕ) → IsTrue (is_in slice i) → t < bound → IsFalse (is_fault (z i t))

-- whatever is derived holds in each solution without a fault, up to its bound
abbrev pub DerivationsAreForced : Type 0
DerivationsAreForced =
    (s : System) (o : ℕ) (slice : List ℕ) (p : Inputs) (bound : ℕ) (z : Streams) (facts : List Fact) →
    IsFlat s →
    IsWellFormed s →
    IsTrue (runs s o) →
    IsSlice s o slice →
    bound ≤ 2 ^ 63 →
    Solves s p bound z →
    IsSound slice z bound →
    IsDerivation s slice p facts →
    (f : Fact) → Contains facts f →
    Says s slice z bound f
