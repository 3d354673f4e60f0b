-- Orders of equations in which each comes after what it uses at the same time.
use Rattle.std.specs.Prelude.{◌≡◌, ◌==◌, ℕ, ◌<◌, Bool, false, ◌||◌, List, [], ◌∷◌, length, Some, IsTrue, IsFalse}
use Rattle.std.specs.List.{AllByRecursion}
use Rattle.flat_core.specs.declared.equation.Equation.{Equation}
use Rattle.flat_core.specs.Case.{used_of}
use Rattle.flat_core.specs.Members.{is_in}
use Rattle.flat_core.specs.System.{System, equation}

-- one more element
abbrev pub with_one : ℕ → (ℕ → Bool) → ℕ → Bool
with_one i done j = (j == i) || done j

module _ (s : System) where
  -- an order in which each equation comes once, after what it uses
  abbrev pub IsOrdered : (ℕ → Bool) → List ℕ → Type 0
  IsOrdered done [] = Unit {0}
  IsOrdered done (i ∷ order) =
      (e : Equation)
      × (equation s i ≡ Some e)
      × IsFalse (done i)
      × AllByRecursion (λ a. IsTrue (done a)) (used_of e.op e.args)
      × IsOrdered (with_one i done) order

-- all that an order has, besides what was done before
abbrev pub with_all : List ℕ → (ℕ → Bool) → ℕ → Bool
with_all [] done = done
with_all (i ∷ order) done = with_all order (with_one i done)

-- an order to run a system in: each equation once, after those that it uses at the same time
pub record IsRunOrder (s : System) (order : List ℕ) : Type 0 where
  pub ordered : IsOrdered s (λ i. false) order
  pub all : (i : ℕ) → i < length s.equations → IsTrue (is_in order i)
