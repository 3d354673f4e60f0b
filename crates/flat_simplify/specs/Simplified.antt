-- The system that simplification makes: other numbers as arguments and at outputs, and fewer equations that run.
use Rattle.std.specs.Prelude.{◌≡◌, ℕ, ◌⊎◌, ◌↔◌, List, map, IsTrue}
use Rattle.std.specs.List.{Contains}
use Rattle.std.specs.List.Sorted.{IsStrictlyIncreasing}
use Rattle.translation_order.specs.Graph.{Walk}
use Rattle.flat_core.specs.Needed.{HasArgument, IsNeeded}
use Rattle.flat_core.specs.Renumbered.{new_number, with_new_args, with_new_equation}
use Rattle.flat_core.specs.System.{System, runs}
use Rattle.flat_simplify.specs.CanFault.{CanFault}
use Rattle.flat_simplify.specs.Replaced.{IsReplacement}

-- a walk along the arguments of u leads to i from an equation that ran in s and can fault
pub record IsAfterFault (s u : System) (i : ℕ) : Type 0 where
  pub start : ℕ
  pub faults : CanFault s start
  pub walk : Walk (HasArgument u.equations) start i

-- what stands for an equation that is printed, or what ran and can fault
abbrev pub IsStart : System → List ℕ → ℕ → Type 0
IsStart s replaced i = Contains (map (λ o. new_number replaced o.equation) s.outputs) i ⊎ CanFault s i

-- what is needed by the outputs, or after an equation that ran before and can fault
abbrev pub Remains : System → System → ℕ → Type 0
Remains s u i = IsNeeded u i ⊎ IsAfterFault s u i

-- u is s with other numbers: all else of equations and outputs is as before, and what remains runs, in ascending order
pub record IsRenumbered (s : System) (replaced : List ℕ) (u : System) : Type 0 where
  pub equations_are : u.equations ≡ map (with_new_args replaced) s.equations
  pub outputs_are : u.outputs ≡ map (with_new_equation replaced) s.outputs
  pub ascending : IsStrictlyIncreasing u.running
  pub remains : (i : ℕ) → IsTrue (runs u i) ↔ Remains s u i

-- u is what simplification makes of s
pub record IsSimplified (s u : System) : Type 0 where
  pub replaced : List ℕ
  pub replacement : IsReplacement s replaced
  pub renumbered : IsRenumbered s replaced u
