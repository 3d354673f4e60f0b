-- A system with other numbers as arguments and at outputs, and with other equations that run.
use Rattle.std.specs.Prelude.{◌≡◌, ℕ, List, length, map, slice_index_or}
use Rattle.tsl_value.specs.declared.scalar.ValueType.{ValueType}
use Rattle.flat_core.specs.declared.equation.Equation.{Equation}
use Rattle.flat_core.specs.declared.equation.Output.{Output}
use Rattle.flat_core.specs.System.{System}
use Rattle.flat_core.specs.TypedSystem.{IsOfType}

-- the number that a list has for a number, and an equation and an output with these
abbrev pub new_number : List ℕ → ℕ → ℕ
new_number replaced i = slice_index_or replaced i i

abbrev pub with_new_args : List ℕ → Equation → Equation
with_new_args replaced e = record e { args = map (new_number replaced) e.args }

abbrev pub with_new_equation : List ℕ → Output → Output
with_new_equation replaced o = record o { equation = new_number replaced o.equation }

-- all else of equations and outputs is as before
abbrev pub renumbered : System → List ℕ → List ℕ → System
renumbered s replaced running =
    record { equations = map (with_new_args replaced) s.equations; outputs = map (with_new_equation replaced) s.outputs; running = running }

-- a number for each equation, of an equation of its type
pub record AreReplacements (s : System) (replaced : List ℕ) : Type 0 where
  pub one_each : length replaced ≡ length s.equations
  pub same_type : (i : ℕ) (t : ValueType) → IsOfType s.equations i t → IsOfType s.equations (new_number replaced i) t
