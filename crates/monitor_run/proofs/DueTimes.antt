-- The time at which a running delay is due, by what is pending.
use Rattle.std.specs.Prelude.{ℕ, List, [], ◌∷◌, Option, Some, None, if◌then◌else◌}
use Rattle.flat_core.specs.declared.equation.Op.{Op}
use Rattle.flat_core.specs.declared.equation.Op.TheVariants as op
use Rattle.flat_core.specs.declared.equation.Equation.{Equation}
use Rattle.flat_core.specs.Case.{Streams}
use Rattle.flat_core.specs.Pending.{pending}
use Rattle.flat_core.specs.System.{System, equation, runs}
use Rattle.register_machine.specs.Stands.{in_time}

-- what is pending before n, of a delay
abbrev pub due_of : Streams → ℕ → Op → List ℕ → ℕ → Option ℕ
due_of z i op.Delay (d ∷ r ∷ []) n = pending (z d) (z r) (z i) n
due_of z i o args n = None

abbrev pub due_at : Option Equation → Streams → ℕ → ℕ → Option ℕ
due_at None z i n = None
due_at (Some e) z i n = due_of z i e.op e.args n

-- when equation i is due, if it is a running delay
abbrev pub due_time : System → Streams → ℕ → ℕ → Option ℕ
due_time s z n i = if runs s i then in_time (due_at (equation s i) z i n) else None
