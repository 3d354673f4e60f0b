-- Which merges are replaced by their first argument, and which number stands for each equation then.
use Rattle.std.specs.Prelude.{◌≡◌, ℕ, List, [], ◌∷◌, length, Option, Some, None, IsTrue, slice_get}
use Rattle.flat_core.specs.declared.equation.Equation.{Equation}
use Rattle.flat_core.specs.declared.equation.Op.TheVariants as op
use Rattle.flat_core.specs.System.{System, runs, equation}
use Rattle.trigger_rules.specs.Question.{Implies}

-- Equation i runs and merges a with another equation, which implies a. Where the other has an event so has a, and a decides.
pub record IsReplaced (s : System) (i a : ℕ) : Type 0 where
  pub at : Equation
  pub is : equation s i ≡ Some at
  pub running : IsTrue (runs s i)
  pub merges : at.op ≡ op.Merge
  pub other : ℕ
  pub args_are : at.args ≡ a ∷ other ∷ []
  pub implied : Implies s other a

-- it gives way to this argument, or to none
abbrev pub IsReplacedBy : System → ℕ → Option ℕ → Type 0
IsReplacedBy s i (Some a) = IsReplaced s i a
IsReplacedBy s i None = (a : ℕ) → IsReplaced s i a → ⊥

-- j stands for i: each replaced number gives way to the first argument, until one is left that is not replaced
pub data StandsFor (s : System) : ℕ → ℕ → Type 0 where
  itself : {i : ℕ} → ((a : ℕ) → IsReplaced s i a → ⊥) → StandsFor s i i
  through : {i a j : ℕ} → IsReplaced s i a → StandsFor s a j → StandsFor s i j

-- a list that has for each equation the number that stands for it
pub record IsReplacement (s : System) (replaced : List ℕ) : Type 0 where
  pub one_each : length replaced ≡ length s.equations
  pub each : (i j : ℕ) → slice_get replaced i ≡ Some j → StandsFor s i j
