-- How what the code has stands for states and configurations of the register machine.
use Rattle.std.specs.Prelude.{◌≡◌, ℕ, Bool, List, Option, Some, None, slice_index}
use Rattle.std.specs.FinMap as finite_map
use Rattle.delay_timers.specs.inner.Pending.{Times}
use Rattle.body_eval.specs.declared.register.Register.{Register}
use Rattle.body_eval.specs.declared.register.Register.TheVariants as register
use Rattle.cell_reader.specs.inner.Cells.{Cells}
use Rattle.aggregate_store.specs.inner.Stored.{Stored}
use Rattle.register_machine.specs.Machine.{Held, Bare, Cell, Slot, held, is_failed, slot_of, Config}
use Rattle.register_machine.specs.Run as run
use Rattle.register_code.specs.declared.plan.Plan.{Plan}
use Rattle.monitor_run.specs.inner.Registers.{register_at}

-- what a register holds
abbrev pub held_by : Register → Option Held
held_by register.Empty = None
held_by (register.Scalar s) = Some (Bare s)
held_by (register.Aggregate handle) = Some (Cell handle)

-- what the register of equation i holds
abbrev pub held_at : List Register → ℕ → Option Held
held_at registers i = held_by (register_at registers i)

-- A register, and the mark of a fault, stand for a register of the machine. The kind of a fault is not kept.
pub record IsShown (marked : Bool) (r : Register) (slot : Slot) : Type 0 where
  pub holds : held_by r ≡ held slot
  pub fails : marked ≡ is_failed slot

-- what is kept between instants, as a state of the machine
abbrev pub state_of : Cells → List ℕ → List Register → Times → run.State
state_of cells ledger last timers = record {
  lasts = held_at last;
  cells = cells;
  ledger = slice_index ledger;
  pending = finite_map.get timers;
}

-- registers, last registers and the store, as a configuration in which no equation is a fault
abbrev pub config_of : List Register → List Register → Stored → Config
config_of registers last store = record {
  slots = λ a. slot_of (held_at registers a);
  lasts = held_at last;
  cells = store.cells;
  ledger = slice_index store.ledger;
  pending = λ i. None;
}

-- the plan of code
abbrev pub plan_in : Plan → run.Plan
plan_in plan = record { in_place = plan.in_place; order = plan.order }
