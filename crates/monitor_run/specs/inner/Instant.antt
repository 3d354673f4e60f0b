-- What the parts of an instant make of the registers, the store and the timers, and that they do as the register machine does.
use Rattle.std.specs.Prelude.{◌≡◌, ◌⊎◌, ℕ, suc, ◌<◌, ◌≤◌, ◌^◌, Bool, true, false, ◌||◌, List, [], ◌∷◌, ◌++◌, length, map, Option, Some}
use Rattle.std.specs.Prelude.{None, Ok, Err, is_some, IsTrue, IsFalse, slice_get, slice_index, slice_index_or, slice_set, if◌then◌else◌}
use Rattle.std.specs.List.{flat_map}
use Rattle.std.specs.FinMap as map
use Rattle.tsl_value.specs.declared.scalar.Scalar.{Scalar}
use Rattle.tsl_value.specs.declared.scalar.Scalar.TheVariants as scalar
use Rattle.tsl_value.specs.declared.scalar.ValueType.{ValueType}
use Rattle.tsl_value.specs.View.{View, Plain}
use Rattle.delay_timers.specs.inner.Pending.{Times}
use Rattle.body_eval.specs.declared.eval.EvalFault.TheVariants as eval_fault
use Rattle.lift_func.specs.declared.fault.FaultKind.{FaultKind}
use Rattle.body_eval.specs.declared.register.Register.{Register}
use Rattle.body_eval.specs.declared.register.Register.TheVariants as register
use Rattle.cell_reader.specs.inner.Cells.{Cells, IsLive}
use Rattle.flat_core.specs.declared.equation.Equation.{Equation}
use Rattle.flat_core.specs.declared.equation.Output.{Output}
use Rattle.flat_core.specs.declared.equation.Op.{Op}
use Rattle.flat_core.specs.declared.equation.Op.TheVariants as op
use Rattle.flat_core.specs.Events.{Inputs, refused}
use Rattle.flat_core.specs.Instant.{is_delay}
use Rattle.flat_core.specs.Line.{Line, inputs_of}
use Rattle.flat_core.specs.Members.{is_in}
use Rattle.flat_core.specs.Pending.{option_is, reached}
use Rattle.flat_core.specs.System.{System, equation, runs}
use Rattle.flat_core.specs.Text.{event_line}
use Rattle.flat_core.specs.Kept.{is_kept, is_timer, keeps_of, timers_of}
use Rattle.aggregate_store.specs.inner.Stored.{is_listed}
use Rattle.register_machine.specs.Content.{print_of}
use Rattle.register_machine.specs.Machine.{Instr, Print, Bare, held, slot_of_answer, Config, value_in, Steps}
use Rattle.register_machine.specs.Run as run
use Rattle.register_machine.specs.Run.{Plan, Instant, body, started, root_seen}
use Rattle.register_machine.specs.Stands.{in_time}
use Rattle.monitor_run.specs.declared.machine.Machine.{Machine}
use Rattle.monitor_run.specs.declared.run.Root.{Root}
use Rattle.monitor_run.specs.inner.Begun.{IsBegunOf}
use Rattle.monitor_run.specs.inner.Stored.{stored_count}
use Rattle.monitor_run.specs.inner.Here.{HasEffect, IsBare, effect_here, first_of, is_blocked_here, is_given_op, is_marked, source_of}
use Rattle.monitor_run.specs.inner.Registers.{AreHeld, register_at, value_at}
use Rattle.monitor_run.specs.inner.Shown.{IsShown, held_at, state_of}

-- ---- the registers with which an instant begins

-- the event of an input goes into its register
abbrev pub with_event : Option View → Register → Register
with_event (Some (Plain s)) r = register.Scalar s
with_event v r = r

-- the registers with the event of a line
abbrev pub moved_in : Option (ℕ × Scalar) → List Register → List Register
moved_in None registers = registers
moved_in (Some e) registers = slice_set registers e.0 (register.Scalar e.1)

-- a delay that is due has its event
abbrev pub expired_at : ℕ → Option ℕ → Register → Register
expired_at t due r = if option_is t due then register.Scalar scalar.Unit else r

abbrev pub left_at : ℕ → Option ℕ → Option ℕ
left_at t due = if option_is t due then None else due

-- the registers of running equations have the events of inputs and delays, and no equation is a fault
pub record Begins (s : System) (t : ℕ) (given : List Line) (old new : Machine) : Type 0 where
  pub registers : (i : ℕ) → IsTrue (runs s i)
      → register_at new.registers.items i ≡ with_event (inputs_of given i t) (expired_at t (map.get old.timers.times i) register.Empty)
  pub faulted : (i : ℕ) → IsTrue (runs s i) → is_marked new.faulted.items i ≡ false
  pub timers : (i : ℕ) → map.get new.timers.times i ≡ left_at t (map.get old.timers.times i)
  pub capacity : new.timers.capacity ≡ old.timers.capacity
  pub last : new.last.items ≡ old.last.items
  pub store : new.store ≡ old.store
  pub texts : new.texts ≡ old.texts
  pub registers_each : length new.registers.items ≡ length old.registers.items
  pub faulted_each : length new.faulted.items ≡ length old.faulted.items

-- ---- root faults

-- the least number of a kind of equations at which there is a fault, with it
abbrev pub IsLeastRoot : (ℕ → Bool) → (ℕ → Option FaultKind) → Option Root → Type 0
IsLeastRoot among at None = (i : ℕ) → IsTrue (among i) → at i ≡ None
IsLeastRoot among at (Some r) =
    IsTrue (among r.equation) × (at r.equation ≡ Some r.kind) × ((i : ℕ) → IsTrue (among i) → i < r.equation → at i ≡ None)

-- ---- one equation

-- what running equations leave as it is
pub record SameBeside (old new : Machine) : Type 0 where
  pub timers : new.timers ≡ old.timers
  pub last : new.last.items ≡ old.last.items
  pub registers_each : length new.registers.items ≡ length old.registers.items
  pub faulted_each : length new.faulted.items ≡ length old.faulted.items
  pub ledger_each : length new.store.ledger ≡ length old.store.ledger
  pub texts_each : length new.texts.items ≡ length old.texts.items

-- equation i has become a fault, since an argument is one: its register is empty
pub record IsBarred (i : ℕ) (old new : Machine) : Type 0 where
  pub registers : new.registers.items ≡ slice_set old.registers.items i register.Empty
  pub faulted : new.faulted.items ≡ slice_set old.faulted.items i true
  pub store : new.store ≡ old.store

-- The ways in which an equation runs: an input or a delay has its event already; a fault of an argument is passed on; the register is
-- filled as the own case has it; or the own case faults, which is the root fault that is answered. The register of a fault is emptied.
pub data HasRunOne (in_place : Bool) (t i : ℕ) (e : Equation) (old new : Machine) : Option Root → Type 0 where
  was_given : IsTrue (is_given_op e.op) → new ≡ old → HasRunOne in_place t i e old new None
  was_barred : IsFalse (is_given_op e.op)
      → IsTrue (is_blocked_here old.faulted.items e.op e.args)
      → new.registers.items ≡ slice_set old.registers.items i register.Empty
      → new.faulted.items ≡ slice_set old.faulted.items i true
      → new.store ≡ old.store
      → HasRunOne in_place t i e old new None
  was_filled : (r : Register)
      → IsFalse (is_given_op e.op)
      → IsFalse (is_blocked_here old.faulted.items e.op e.args)
      → HasEffect in_place i e.op (source_of old.registers.items e.args) old.store new.store (Ok r)
      (effect_here old.registers.items old.last.items old.store i t e)
      → new.registers.items ≡ slice_set old.registers.items i r
      → new.faulted ≡ old.faulted
      → HasRunOne in_place t i e old new None
  has_failed : (kind : FaultKind)
      → IsFalse (is_given_op e.op)
      → IsFalse (is_blocked_here old.faulted.items e.op e.args)
      → HasEffect in_place i e.op (source_of old.registers.items e.args) old.store new.store (Err (eval_fault.Fault kind))
      (effect_here old.registers.items old.last.items old.store i t e)
      → new.registers.items ≡ slice_set old.registers.items i register.Empty
      → new.faulted.items ≡ slice_set old.faulted.items i true
      → HasRunOne in_place t i e old new (Some (record { equation = i; kind = kind }))

-- ---- one print

abbrev pub name_of : Option Output → List ℕ
name_of None = []
name_of (Some o) = o.name

-- The text of output k is the line of what its register has. Nothing else has changed.
pub record HasPrinted (s : System) (t k : ℕ) (old new : Machine) : Type 0 where
  pub registers : new.registers ≡ old.registers
  pub faulted : new.faulted ≡ old.faulted
  pub store : new.store ≡ old.store
  pub text : new.texts.items
      ≡ slice_set old.texts.items k
      (event_line t (name_of (slice_get s.outputs k)) (value_at old.store.cells old.registers.items (print_of s k)))

-- ---- all steps

-- No register holds a cell. So no cell was made or changed, since an equation that does that fills its register with the cell.
abbrev pub AreBare : List Register → Type 0
AreBare registers = (i : ℕ) → IsBare (register_at registers i)

-- what the code has of equation i stands for the machine's register
abbrev pub IsShownAt : Machine → Config → ℕ → Type 0
IsShownAt m c i = IsShown (is_marked m.faulted.items i) (register_at m.registers.items i) (c.slots i)

-- and so does what it has beside the registers
pub record ShowsBeside (m : Machine) (c : Config) : Type 0 where
  pub lasts : (v : ℕ) → held_at m.last.items v ≡ c.lasts v
  pub cells : m.store.cells ≡ c.cells
  pub ledger : (u : ℕ) → slice_index m.store.ledger u ≡ c.ledger u

-- an input or a delay has its event from the beginning
pub record IsGivenEvent (inputs : Inputs) (t i : ℕ) (o : Op) (m : Machine) (pending : ℕ → Option ℕ) : Type 0 where
  pub input : o ≡ op.Input → held_at m.registers.items i ≡ held (slot_of_answer (Ok (inputs i t)))
  pub delay : o ≡ op.Delay → held_at m.registers.items i ≡ (if option_is t (pending i) then Some (Bare scalar.Unit) else None)

-- The code begins an instant as the machine does from a state: no equation has run, and inputs and delays have their events.
pub record StartsAs (s : System) (inputs : Inputs) (t : ℕ) (a : run.State) (m : Machine) : Type 0 where
  pub given : (i : ℕ) (e : Equation) → IsTrue (runs s i) → equation s i ≡ Some e → IsGivenEvent inputs t i e.op m a.pending
  pub beside : ShowsBeside m (started a)

-- the equations that are done stand for those of a configuration
pub record Shows (s : System) (done : ℕ → Bool) (m : Machine) (c : Config) : Type 0 where
  pub each : (i : ℕ) → IsTrue (runs s i) → IsTrue (done i) → IsShownAt m c i
  pub beside : ShowsBeside m c

-- the root faults other than those of delays
abbrev pub root_beside : System → Config → ℕ → Option FaultKind
root_beside s c i = if is_delay (equation s i) then None else root_seen s c i

-- the text of output k is that of what it has when its print is reached
pub record IsPrinted (s : System) (plan : Plan) (inputs : Inputs) (t : ℕ) (a : run.State) (k : ℕ) (text : List ℕ) : Type 0 where
  pub before : List Instr
  pub after : List Instr
  pub is : body s plan ≡ before ++ Print k ∷ after
  pub mid : Config
  pub leads : Steps inputs t s before (started a) mid
  pub text_is : text ≡ event_line t (name_of (slice_get s.outputs k)) (value_in mid (print_of s k))

-- All steps have run, as the machine's instructions up to the last print: the least root fault of an equation that is no delay is
-- known, and the text of each output.
pub record HasRunBody (s : System) (plan : Plan) (inputs : Inputs) (t : ℕ)
    (a : run.State) (new : Machine) (root : Option Root) : Type 0 where
  pub reached : Config
  pub ran : Steps inputs t s (body s plan) (started a) reached
  pub shows : Shows s (λ i. true) new reached
  pub pending : (i : ℕ) → reached.pending i ≡ a.pending i
  pub delays : (i : ℕ) (e : Equation)
      → IsTrue (runs s i)
      → equation s i ≡ Some e
      → e.op ≡ op.Delay
      → held (reached.slots i) ≡ (if option_is t (a.pending i) then Some (Bare scalar.Unit) else None)
  pub root_is : IsLeastRoot (runs s) (root_beside s reached) root
  pub printed : (k : ℕ) → k < length s.outputs → IsPrinted s plan inputs t a k (slice_index_or new.texts.items k [])

pub record HasRunAll (s : System) (plan : Plan) (t : ℕ) (old new : Machine) (root : Option Root) : Type 0 where
  pub same : SameBeside old new
  pub types : ℕ → ValueType
  pub held : AreHeld s types new.store.cells new.registers.items
  pub last : AreHeld s types new.store.cells new.last.items
  pub cells_stay : AreBare new.registers.items → new.store.cells ≡ old.store.cells
  pub means : (inputs : Inputs) (a : run.State) → StartsAs s inputs t a old → HasRunBody s plan inputs t a new root

-- ---- delays

abbrev pub first_value : Cells → List Register → List ℕ → Option View
first_value cells registers args = first_of (map (value_at cells registers) args)

-- why the amount of a delay is refused
abbrev pub refusal_of : Option Equation → Cells → List Register → Option FaultKind
refusal_of None cells registers = None
refusal_of (Some e) cells registers = refused (first_value cells registers e.args)

-- a delay is set where its second argument or it itself has an event; else it stays as it is
abbrev pub set_by : ℕ → Option View → Option View → Option View → Option ℕ → Option ℕ
set_by t amount reset delay due = if is_some reset || is_some delay then in_time (reached t amount) else due

abbrev pub second_of : List (Option View) → Option View
second_of [] = None
second_of (v ∷ values) = first_of values

abbrev pub set_at : Option Equation → Cells → List Register → ℕ → ℕ → Option ℕ → Option ℕ
set_at None cells registers t i due = due
set_at (Some e) cells registers t i due =
    set_by t (first_of (map (value_at cells registers) e.args)) (second_of (map (value_at cells registers) e.args))
    (value_at cells registers i) due

-- ---- what is kept

-- a register that is not empty
abbrev pub kept_register : Register → Register → Register
kept_register register.Empty before = before
kept_register r before = r

-- such a register in its place
abbrev pub kept_in : Register → ℕ → List Register → List Register
kept_in register.Empty i last = last
kept_in r i last = slice_set last i r

abbrev pub cell_in : Register → List ℕ
cell_in (register.Aggregate handle) = handle ∷ []
cell_in _ = []

-- the cells of registers
abbrev pub cells_in : List Register → List ℕ → List ℕ
cells_in registers keeps = flat_map (λ i. cell_in (register_at registers i)) keeps

-- ---- an instant

-- only running delays are pending, at times from one on that come
pub record AreTimers (s : System) (from : ℕ) (timers : Times) : Type 0 where
  pub each : (i u : ℕ) → map.get timers i ≡ Some u → IsTrue (is_timer s i) × (from ≤ u) × (u < 2 ^ 63)

-- what is not kept has no last register
abbrev pub AreUnkept : System → List Register → Type 0
AreUnkept s last = (i : ℕ) → IsFalse (is_kept s i) → register_at last i ≡ register.Empty

-- what the code keeps, as a state of the machine
abbrev pub kept_of : Machine → run.State
kept_of m = state_of m.store.cells m.store.ledger m.last.items m.timers.times

-- the events of the inputs at a time are those that were given
abbrev pub AreInputs : List Line → ℕ → Inputs → Type 0
AreInputs given t inputs = (i : ℕ) → inputs_of given i t ≡ inputs i t

-- each cell is held by a last register
abbrev pub AreListed : System → Machine → Type 0
AreListed s m = (h : ℕ) → IsLive m.store.cells h → IsTrue (is_listed (cells_in m.last.items (keeps_of s)) h)

-- what is kept is sound, and nothing is pending before a time
pub record IsSound (s : System) (from : ℕ) (m : Machine) : Type 0 where
  pub types : ℕ → ValueType
  pub last : AreHeld s types m.store.cells m.last.items
  pub unkept : AreUnkept s m.last.items
  pub timers : AreTimers s from m.timers.times
  pub few_cells : map.len m.store.cells ≤ stored_count s
  pub listed : AreListed s m

-- The instant has been run up to its last print, and the least root fault there is known.
pub record HasReached (s : System) (plan : Plan) (inputs : Inputs) (t : ℕ) (old new : Machine) (root : Option Root) : Type 0 where
  pub reached : Config
  pub ran : Steps inputs t s (body s plan) (started (kept_of old)) reached
  pub shows : Shows s (λ i. true) new reached
  pub pending : (i : ℕ) → reached.pending i ≡ map.get old.timers.times i
  pub delays : (i : ℕ) (e : Equation)
      → IsTrue (runs s i)
      → equation s i ≡ Some e
      → e.op ≡ op.Delay
      → held (reached.slots i) ≡ (if option_is t (map.get old.timers.times i) then Some (Bare scalar.Unit) else None)
  pub least : IsLeastRoot (runs s) (root_seen s reached) root
  pub printed : (k : ℕ) → k < length s.outputs → IsPrinted s plan inputs t (kept_of old) k (slice_index_or new.texts.items k [])

pub record HasRunRegisters (s : System) (plan : Plan) (t : ℕ) (given : List Line) (old new : Machine) (root : Option Root) : Type 0 where
  pub types : ℕ → ValueType
  pub held : AreHeld s types new.store.cells new.registers.items
  pub last : AreHeld s types new.store.cells new.last.items
  pub last_same : new.last.items ≡ old.last.items
  pub cells_stay : AreBare new.registers.items → new.store.cells ≡ old.store.cells
  pub timers : (i : ℕ) → map.get new.timers.times i ≡ left_at t (map.get old.timers.times i)
  pub positive : root ≡ None → (i : ℕ) → IsTrue (is_timer s i) → refusal_of (equation s i) new.store.cells new.registers.items ≡ None
  pub means : (inputs : Inputs) → AreInputs given t inputs → HasReached s plan inputs t old new root

-- a text is the lines of a time, by output, as the machine prints them
pub record IsInstantText (s : System) (plan : Plan) (inputs : Inputs) (t : ℕ) (a : run.State) (text : List ℕ) : Type 0 where
  pub texts : List (List ℕ)
  pub each : length texts ≡ length s.outputs
  pub printed : (k : ℕ) → k < length s.outputs → IsPrinted s plan inputs t a k (slice_index_or texts k [])
  pub is : text ≡ flat_map (λ x. x) texts

-- An instant has run without a root fault: it is one of the machine, and what it prints was appended.
pub record HasRunInstant (s : System) (plan : Plan) (t : ℕ) (given : List Line) (old new : Machine) (before after : List ℕ) : Type 0 where
  pub sound : IsSound s (suc t) new
  pub added : List ℕ
  pub after_is : after ≡ before ++ added
  pub instant : (inputs : Inputs) → AreInputs given t inputs → Instant s plan inputs t (kept_of old) (kept_of new)
  pub text : (inputs : Inputs) → AreInputs given t inputs → IsInstantText s plan inputs t (kept_of old) added

-- an instant of the machine reaches its last print with a root fault, of which this one is the least, and with this ledger
pub record ReachesFault (s : System) (plan : Plan) (inputs : Inputs) (t : ℕ) (a : run.State) (root : Root) (ledger : List ℕ) : Type 0 where
  pub reached : Config
  pub ran : Steps inputs t s (body s plan) (started a) reached
  pub least : IsLeastRoot (runs s) (root_seen s reached) (Some root)
  pub ledger_is : (u : ℕ) → slice_index ledger u ≡ reached.ledger u

pub record HasFaultedAt (s : System) (plan : Plan) (t : ℕ) (given : List Line)
    (old new : Machine) (root : Root) (before after : List ℕ) : Type 0 where
  pub unwritten : after ≡ before
  pub means : (inputs : Inputs) → AreInputs given t inputs → ReachesFault s plan inputs t (kept_of old) root new.store.ledger

abbrev pub IsInstant : System → Plan → ℕ → List Line → Machine → Machine → List ℕ → List ℕ → Option Root → Type 0
IsInstant s plan t given old new before after None = HasRunInstant s plan t given old new before after
IsInstant s plan t given old new before after (Some root) = HasFaultedAt s plan t given old new root before after

-- nothing was appended, or the beginning of the instant's text
abbrev pub IsInstantBegun : System → Plan → ℕ → List Line → Machine → List ℕ → List ℕ → Type 0
IsInstantBegun s plan t given old before after =
    (after ≡ before)
    ⊎ ((text : List ℕ)
    × ((inputs : Inputs) → AreInputs given t inputs → IsInstantText s plan inputs t (kept_of old) text)
    × IsBegunOf before after text)

-- what is left of an instant that has no root fault
pub record HasEnded (s : System) (t : ℕ) (old new : Machine) : Type 0 where
  pub last : (i : ℕ) → register_at new.last.items i
      ≡ (if is_in (keeps_of s) i then kept_register (register_at old.registers.items i) (register_at old.last.items i)
      else register_at old.last.items i)
  pub timers : (types : ℕ → ValueType) (cells : Cells) → AreHeld s types cells old.registers.items → (i : ℕ) → map.get new.timers.times i
      ≡ (if is_in (timers_of s) i then set_at (equation s i) cells old.registers.items t i (map.get old.timers.times i)
      else map.get old.timers.times i)
  pub cells : new.store.cells ≡ map.retain_keys old.store.cells (is_listed (cells_in new.last.items (keeps_of s)))
  pub ledger : new.store.ledger ≡ old.store.ledger
