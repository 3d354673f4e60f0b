-- What a monitor keeps, as a state apart from it.
use Rattle.std.specs.Prelude.{◌≡◌, ◌==◌, ℕ, List, [], ◌∷◌, map, Option, Some, None, if◌then◌else◌, nat_eq, position, unwrap_or}
use Rattle.std.specs.List.{flat_map}
use Rattle.std.specs.List.Sorted.{IsStrictlyIncreasing}
use Rattle.tsl_value.specs.View.{View, Plain}
use Rattle.cell_reader.specs.inner.Cells.{view_at}
use Rattle.aggregate_store.specs.Content.{content_of}
use Rattle.flat_core.specs.Kept.{keeps_of, timers_of}
use Rattle.flat_core.specs.Line.{Line, inputs_of}
use Rattle.flat_core.specs.System.{System}
use Rattle.flat_core.specs.Updates.{running_updates}
use Rattle.register_machine.specs.Machine.{Held, Bare, Cell}
use Rattle.register_machine.specs.Run as run
use Rattle.monitor_state.specs.Firsts.{firsts}
use Rattle.monitor_state.specs.declared.state.MonitorState.{MonitorState}
use Rattle.monitor_state.specs.declared.state.OpenEvent.{OpenEvent}
use Rattle.monitor_state.specs.declared.state.SavedRegister.{SavedRegister}
use Rattle.monitor_state.specs.declared.state.SavedRegister.TheVariants as saved
use Rattle.monitor_run.specs.inner.Given.{AreAt}
use Rattle.monitor_run.specs.inner.Next.{IsIdle}
use Rattle.monitor_run.specs.inner.State.{State, kept_state}

-- ---- what a monitor keeps

-- No stop is kept, no step is left to run, and the events that are open stand at the bound.
pub record CanSave (m : State) : Type 0 where
  pub going : m.stop ≡ None
  pub idle : IsIdle m
  pub at_bound : AreAt m.bound m.given

-- the cell that is held, if one is
abbrev pub cell_held : Option Held → List ℕ
cell_held (Some (Cell h)) = h ∷ []
cell_held _ = []

-- the cells that the last registers hold, each where it is held first
abbrev pub held_cells : System → run.State → List ℕ
held_cells s a = firsts (flat_map (λ v. cell_held (a.lasts v)) (keeps_of s))

-- what is held, with the number of its cell among these in place of the handle
abbrev pub saved_of : List ℕ → Option Held → SavedRegister
saved_of cells None = saved.Empty
saved_of cells (Some (Bare value)) = saved.Scalar value
saved_of cells (Some (Cell handle)) = saved.Cell (unwrap_or (position (λ h. nat_eq h handle) cells) 0)

-- The state shows what the register machine keeps between two instants. Handles don't show: a cell has the number that it has among
-- the cells of the last registers.
pub record ShowsMachine (s : System) (a : run.State) (st : MonitorState) : Type 0 where
  pub ledger : st.ledger ≡ map a.ledger (running_updates s)
  pub registers : st.registers ≡ map (λ v. saved_of (held_cells s a) (a.lasts v)) (keeps_of s)
  pub cells : st.cells ≡ map (λ h. content_of (view_at a.cells h)) (held_cells s a)
  pub pending : st.pending ≡ map a.pending (timers_of s)

-- the event of an equation
abbrev pub value_of : List OpenEvent → ℕ → Option View
value_of [] i = None
value_of (e ∷ events) i = if e.equation == i then Some (Plain e.value) else value_of events i

-- the open events are those at a time, by equation; the order in which they came does not show
pub record AreOpenAt (lines : List Line) (time : ℕ) (events : List OpenEvent) : Type 0 where
  pub values : (i : ℕ) → value_of events i ≡ inputs_of lines i time
  pub by_equation : IsStrictlyIncreasing (map (λ e. e.equation) events)

-- the state is what the monitor keeps
pub record HasState (m : State) (st : MonitorState) : Type 0 where
  pub bound : st.bound ≡ m.bound
  pub instants : st.instants ≡ m.ran
  pub open_events : AreOpenAt m.given m.bound st.open_events
  pub machine : ShowsMachine m.system (kept_state m) st
