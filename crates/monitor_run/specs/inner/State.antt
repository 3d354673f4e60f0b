-- What a caller sees of a monitor.
use Rattle.std.specs.Prelude.{◌≡◌, ℕ, ◌+◌, ◌<◌, ◌≤◌, ◌^◌, List, Option}
use Rattle.std.specs.List.{AllByRecursion}
use Rattle.std.specs.FinMap as map
use Rattle.tsl_value.specs.declared.scalar.ValueType.{ValueType}
use Rattle.delay_timers.specs.inner.Pending.{Times}
use Rattle.body_eval.specs.declared.register.Register.{Register}
use Rattle.cell_reader.specs.inner.Cells.{Cells}
use Rattle.flat_core.specs.Complete.{IsFlat}
use Rattle.flat_core.specs.Line.{Line}
use Rattle.flat_core.specs.System.{System}
use Rattle.alias_rules.specs.Fine.{IsFinePlan}
use Rattle.register_machine.specs.Run as run
use Rattle.register_machine.specs.Short.{IsShortState}
use Rattle.register_machine.specs.Tidy.{IsTidy}
use Rattle.monitor_run.specs.declared.monitor.Closed.{Closed}
use Rattle.monitor_run.specs.declared.monitor.Closed.TheVariants as closed
use Rattle.monitor_run.specs.declared.monitor.Stop.{Stop}
use Rattle.monitor_run.specs.inner.Given.{AreAt, AreEventLines, AreOnce, IsShortLine}
use Rattle.monitor_run.specs.inner.Instant.{AreTimers, AreUnkept}
use Rattle.monitor_run.specs.inner.Registers.{AreHeld}
use Rattle.monitor_run.specs.inner.Shown.{state_of}
use Rattle.monitor_run.specs.inner.Stored.{stored_count}

pub record State : Type 0 where
  pub system : System
  -- the plan: the updates that happen in place, and the order of the steps
  pub in_place : List ℕ
  pub order : List ℕ
  -- how many instants may run, and how many have
  pub limit : ℕ
  pub ran : ℕ
  -- all instants before `next` have run, and all times before `bound` are closed
  pub next : ℕ
  pub bound : ℕ
  -- the events of the open time, of which no instant has run
  pub given : List Line
  pub cells : Cells
  -- for each equation how many elements it has copied, and its last register
  pub ledger : List ℕ
  pub last : List Register
  -- when the pending delays are due
  pub timers : Times
  -- the stop that was answered
  pub stop : Option Stop

-- the plan by which a monitor runs
abbrev pub plan_of : State → run.Plan
plan_of m = record { in_place = m.in_place; order = m.order }

-- the state of the register machine that a monitor keeps: the last registers, the cells, the ledger and the pending delays
abbrev pub kept_state : State → run.State
kept_state m = state_of m.cells m.ledger m.last m.timers

-- texts have at most 65,536 bytes: those of the given events, and those that are kept
pub record AreShort (m : State) : Type 0 where
  pub given : AllByRecursion IsShortLine m.given
  pub kept : IsShortState (kept_state m)

-- What a monitor has where no stop is kept. The given events are all of one time, from `next` on. It keeps nothing but what is kept.
-- An instant has run exactly where `next` is above 0, since time 0 is one.
pub record IsReady (m : State) : Type 0 where
  pub whole : IsFlat m.system
  pub fine : IsFinePlan m.system m.in_place m.order
  pub room : m.ran ≤ m.limit
  pub some_room : 0 < m.limit
  pub within : m.next ≤ m.bound
  pub in_time : m.bound ≤ 2 ^ 63
  pub time : ℕ
  pub given_at : AreAt time m.given
  pub given_later : m.next ≤ time
  pub events : AreEventLines m.system m.given
  pub once : AreOnce m.given
  pub types : ℕ → ValueType
  pub last : AreHeld m.system types m.cells m.last
  pub unkept : AreUnkept m.system m.last
  pub timers : AreTimers m.system m.next m.timers
  pub few_cells : map.len m.cells ≤ stored_count m.system
  pub tidy : IsTidy m.system (kept_state m)
  pub unbegun : m.next ≡ 0 → m.ran ≡ 0
  pub begun : 0 < m.next → 0 < m.ran
  pub short : AreShort m

-- the times that are closed are those below this
abbrev pub bound_of : Closed → ℕ
bound_of (closed.Below t) = t
bound_of (closed.Through t) = t + 1
