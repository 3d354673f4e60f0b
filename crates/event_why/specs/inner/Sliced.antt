-- The system of one output, and the lines that it hears.
use Rattle.std.specs.Prelude.{◌≡◌, ℕ, Bool, false, List, [], ◌∷◌, Option, Some, None, slice_get}
use Rattle.std.specs.List.{filter}
use Rattle.tsl_value.specs.declared.scalar.Scalar.{Scalar}
use Rattle.flat_core.specs.declared.equation.Output.{Output}
use Rattle.flat_core.specs.Complete.{IsFlat}
use Rattle.flat_core.specs.Line.{Line}
use Rattle.flat_core.specs.System.{System, runs}
use Rattle.flat_slice.specs.Slice.{IsSlice}

-- the system has the same equations, and just the slice of the output of a number, its only one, runs
pub record IsSliced (s : System) (number : ℕ) (f : System) : Type 0 where
  pub output : Output
  pub is_output : slice_get s.outputs number ≡ Some output
  pub whole : IsFlat f
  pub equations : f.equations ≡ s.equations
  pub outputs : f.outputs ≡ output ∷ []
  pub slice : IsSlice s output.equation f.running

-- an event of an equation that runs
abbrev pub is_of_running : System → Option (ℕ × Scalar) → Bool
is_of_running s None = false
is_of_running s (Some e) = runs s e.0

-- the lines that have such an event
abbrev pub is_heard : System → Line → Bool
is_heard s l = is_of_running s l.event

abbrev pub heard : System → List Line → List Line
heard s lines = filter (is_heard s) lines
