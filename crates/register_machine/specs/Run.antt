-- The code of a plan, whole instants of the register machine, and runs over them.
use Rattle.std.specs.Prelude.{◌≡◌, ◌==◌, ℕ, ◌-◌, Bool, false, if◌then◌else◌, nat_lt, List, [], ◌∷◌, ◌++◌, map, length, Option, Some, None}
use Rattle.std.specs.Prelude.{is_some, IsFalse}
use Rattle.std.specs.Option.{option_and_then}
use Rattle.std.specs.List.{list_any}
use Rattle.std.specs.FinMap as finite_map
use Rattle.lift_func.specs.declared.fault.FaultKind.{FaultKind}
use Rattle.flat_core.specs.declared.equation.Op.{Op}
use Rattle.flat_core.specs.declared.equation.Op.TheVariants as op
use Rattle.flat_core.specs.Events.{Inputs, refused}
use Rattle.flat_core.specs.Kept.{keeps_of, timers_of}
use Rattle.flat_core.specs.Members.{is_in}
use Rattle.flat_core.specs.System.{System, equation}
use Rattle.register_machine.specs.Machine.{Instr, Run, RunInPlace, Print, Keep, Timer, Held, Cell, Slot, Blank, Failed, Config, Cells}
use Rattle.register_machine.specs.Machine.{value_in, Steps}

-- the updates that happen in place, and the order of the steps
pub record Plan : Type 0 where
  pub in_place : List ℕ
  pub order : List ℕ

-- The instruction of a step. The step of an equation is its number, that of a print the count of equations and the output's number.
abbrev pub step_instr : System → Plan → ℕ → Instr
step_instr s plan n =
    if nat_lt n (length s.equations) then (if is_in plan.in_place n then RunInPlace n else Run n) else Print (n - length s.equations)

-- the code of an instant: the steps in their order, then what is kept, and then the delays
abbrev pub body : System → Plan → List Instr
body s plan = map (step_instr s plan) plan.order

abbrev pub ending : System → List Instr
ending s = map Keep (keeps_of s) ++ map Timer (timers_of s)

-- what stays between two instants
pub record State : Type 0 where
  pub lasts : ℕ → Option Held
  pub cells : Cells
  pub ledger : ℕ → ℕ
  pub pending : ℕ → Option ℕ

-- the first state, in which nothing has happened
abbrev pub nothing_yet : State
nothing_yet = record { lasts = λ v. None; cells = finite_map.empty; ledger = λ u. 0; pending = λ i. None }

-- an instant starts with blank registers
abbrev pub started : State → Config
started a = record { slots = λ i. Blank; lasts = a.lasts; cells = a.cells; ledger = a.ledger; pending = a.pending }

-- A root fault of equation i after the last print: its own case has faulted, as its register says, or it is a delay whose amount is not
-- positive.
abbrev pub failed_by : Slot → Option FaultKind
failed_by (Failed kind) = kind
failed_by _ = None

abbrev pub root_in : Config → ℕ → Op → List ℕ → Option FaultKind
root_in c i op.Delay (d ∷ r ∷ []) = refused (value_in c d)
root_in c i op.Delay args = None
root_in c i o args = failed_by (c.slots i)

abbrev pub root_seen : System → Config → ℕ → Option FaultKind
root_seen s c i = option_and_then (λ e. root_in c i e.op e.args) (equation s i)

abbrev pub has_root : System → Config → Bool
has_root s c = list_any (λ i. is_some (root_seen s c i)) s.running

-- the cells that a last register holds; the others are dropped
abbrev pub is_cell : ℕ → Option Held → Bool
is_cell h (Some (Cell k)) = k == h
is_cell h _ = false

abbrev pub kept_cells : System → Config → Cells
kept_cells s c = finite_map.retain_keys c.cells (λ h. list_any (λ v. is_cell h (c.lasts v)) (keeps_of s))

abbrev pub ended : System → Config → State
ended s c = record { lasts = c.lasts; cells = kept_cells s c; ledger = c.ledger; pending = c.pending }

-- An instant at t without a root fault leads from one state to another. The configuration after the last print is `reached`: a root
-- fault there would have ended the run.
pub record Instant (s : System) (plan : Plan) (inputs : Inputs) (t : ℕ) (a b : State) : Type 0 where
  pub reached : Config
  pub ran : Steps inputs t s (body s plan) (started a) reached
  pub sound : IsFalse (has_root s reached)
  pub last : Config
  pub kept_on : Steps inputs t s (ending s) reached last
  pub is : b ≡ ended s last

-- instants at these times, one after another
abbrev pub Runs : System → Plan → Inputs → List ℕ → State → State → Type 0
Runs s plan inputs [] a b = b ≡ a
Runs s plan inputs (t ∷ times) a b = (mid : State) × Instant s plan inputs t a mid × Runs s plan inputs times mid b
