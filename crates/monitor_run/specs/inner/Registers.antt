-- The registers of the equations, and what the cells hold for them.
use Rattle.std.specs.Prelude.{◌≡◌, ℕ, List, length, Option, Some, IsTrue, slice_index_or}
use Rattle.tsl_value.specs.declared.scalar.ValueType.{ValueType}
use Rattle.tsl_value.specs.View.{View}
use Rattle.body_eval.specs.declared.register.Register.{Register}
use Rattle.body_eval.specs.declared.register.Register.TheVariants as register
use Rattle.cell_reader.specs.inner.Cells.{Cells}
use Rattle.body_eval.specs.inner.Registers.{held, HoldsLive}
use Rattle.lift_func.specs.Typing.{Optional, fits}
use Rattle.flat_core.specs.declared.equation.Equation.{Equation}
use Rattle.flat_core.specs.System.{System, equation, runs}

abbrev pub register_at : List Register → ℕ → Register
register_at registers i = slice_index_or registers i register.Empty

-- the value of equation i's register
abbrev pub value_at : Cells → List Register → ℕ → Option View
value_at cells registers i = held cells (register_at registers i)

-- the register's value is of a type, and an aggregate's cell is live
pub record IsHeldOf (cells : Cells) (of : ValueType) (r : Register) : Type 0 where
  pub typed : IsTrue (fits (Optional of) (held cells r))
  pub live : HoldsLive cells r

-- Each equation has a register, and the values of those that run are of their types. `types` has a type for each cell: all registers that
-- hold the cell are of equations of this type.
pub record AreHeld (s : System) (types : ℕ → ValueType) (cells : Cells) (registers : List Register) : Type 0 where
  pub one_each : length registers ≡ length s.equations
  pub each : (i : ℕ) (e : Equation) → IsTrue (runs s i) → equation s i ≡ Some e → IsHeldOf cells e.of (register_at registers i)
  pub one_type : (i h : ℕ) (e : Equation)
      → IsTrue (runs s i)
      → equation s i ≡ Some e
      → register_at registers i ≡ register.Aggregate h
      → types h ≡ e.of
