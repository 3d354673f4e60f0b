-- The register machine: what each instruction of an instant does.
use Rattle.std.specs.Prelude.{◌≡◌, ◌==◌, ℕ, ◌+◌, ◌-◌, ◌^◌, min, Bool, true, false, ◌||◌, if◌then◌else◌, nat_lt, pos, List, [], ◌∷◌, map}
use Rattle.std.specs.Prelude.{Option, Some, None, is_some, Ok, Err}
use Rattle.std.specs.Option.{option_or, option_and_then}
use Rattle.std.specs.List.{list_any}
use Rattle.std.specs.Ordering.{nat_cmp}
use Rattle.std.specs.FinMap as finite_map
use Rattle.tsl_value.specs.declared.scalar.Scalar.{Scalar}
use Rattle.tsl_value.specs.declared.scalar.Scalar.TheVariants as scalar
use Rattle.tsl_value.specs.declared.scalar.ValueType.{ValueType}
use Rattle.tsl_value.specs.View.{View, Plain}
use Rattle.lift_func.specs.declared.fault.FaultKind.{FaultKind}
use Rattle.lift_func.specs.Apply.{Answer}
use Rattle.flat_core.specs.declared.equation.Op.{Op}
use Rattle.flat_core.specs.declared.equation.Op.TheVariants as op
use Rattle.flat_core.specs.declared.equation.Equation.{Equation}
use Rattle.flat_core.specs.Case.{used_of}
use Rattle.flat_core.specs.Events.{Inputs, at_once}
use Rattle.flat_core.specs.Pending.{option_is}
use Rattle.flat_core.specs.System.{System, equation}
use Rattle.flat_core.specs.Updates.{is_update}
use Rattle.register_machine.specs.Copied.{size_at}

-- The instructions: an equation is run, or run in place, an output is printed, a register is kept for later times, a delay is set.
pub data Instr : Type 0 where
  Run : ℕ → Instr
  RunInPlace : ℕ → Instr
  Print : ℕ → Instr
  Keep : ℕ → Instr
  Timer : ℕ → Instr

-- what is held: a scalar, or the handle of a cell with an aggregate
pub data Held : Type 0 where
  Bare : Scalar → Held
  Cell : ℕ → Held

-- The register of an equation within an instant. It is blank, or it holds something, or the equation is Fault: then it has the kind of
-- the fault where the equation's own case faults, and none where the fault of an argument is passed on.
pub data Slot : Type 0 where
  Blank : Slot
  Holds : Held → Slot
  Failed : Option FaultKind → Slot

-- the cells: views behind handles
abbrev pub Cells : Type 0
Cells = finite_map.FinMap nat_cmp View

-- Within an instant: the registers of the equations, the last registers, the cells, what updates have copied, and when delays are due.
pub record Config : Type 0 where
  pub slots : ℕ → Slot
  pub lasts : ℕ → Option Held
  pub cells : Cells
  pub ledger : ℕ → ℕ
  pub pending : ℕ → Option ℕ

abbrev pub held : Slot → Option Held
held (Holds h) = Some h
held _ = None

abbrev pub is_failed : Slot → Bool
is_failed (Failed kind) = true
is_failed _ = false

-- what is held, as a value
abbrev pub view_of : Cells → Held → Option View
view_of cells (Bare s) = Some (Plain s)
view_of cells (Cell h) = finite_map.get cells h

abbrev pub value_in : Config → ℕ → Option View
value_in c a = option_and_then (view_of c.cells) (held (c.slots a))

-- the register of equation a holds something
abbrev pub fires : Config → ℕ → Bool
fires c a = is_some (held (c.slots a))

abbrev pub slot_of : Option Held → Slot
slot_of None = Blank
slot_of (Some h) = Holds h

-- the register for an answer that is no aggregate
abbrev pub slot_of_answer : Answer → Slot
slot_of_answer (Ok (Some (Plain s))) = Holds (Bare s)
slot_of_answer (Ok _) = Blank
slot_of_answer (Err kind) = Failed (Some kind)

-- what a filter and a choice hand on
abbrev pub where_true : Option Held → Option Held → Option Held
where_true (Some (Bare (scalar.Bool true))) h = h
where_true _ h = None

abbrev pub where_either : Option Held → Option Held → Option Held → Option Held
where_either (Some (Bare (scalar.Bool true))) (Some a) (Some b) = Some a
where_either (Some (Bare (scalar.Bool false))) (Some a) (Some b) = Some b
where_either _ a b = None

-- a function with one value changed
abbrev pub with : {A : Type 0} → (ℕ → A) → ℕ → A → ℕ → A
with f i x j = if j == i then x else f j

-- What running an equation does: its register is filled, or it gets a cell with a view.
pub data Effect : Type 0 where
  Fill : Slot → Effect
  Make : View → Effect

abbrev pub made : Answer → Effect
made (Ok (Some v)) = Make v
made (Ok None) = Fill Blank
made (Err kind) = Fill (Failed (Some kind))

-- an update gets a cell where it has an aggregate, and what is no aggregate fills the register
abbrev pub effect_by : Bool → Answer → Effect
effect_by true answer = made answer
effect_by false answer = Fill (slot_of_answer answer)

-- a fault of an argument that is used at the same time is passed on
abbrev pub is_barred : Config → Equation → Bool
is_barred c e = list_any (λ a. is_failed (c.slots a)) (used_of e.op e.args)

-- the size of the source of an update, which a copy adds to the ledger; numbers stop at 2^64 - 1
abbrev pub source_size : Config → List ℕ → ℕ
source_size c [] = 0
source_size c (m ∷ args) = size_at (value_in c m)

abbrev pub counted : Config → ℕ → Equation → ℕ → ℕ
counted c i e = if is_update e.op then with c.ledger i (min (c.ledger i + source_size c e.args) (2 ^ 64 - 1)) else c.ledger

-- A run fills the register, or makes a cell under a handle that was not live. The handle is free.
abbrev pub Ran : ℕ → Equation → Config → Effect → Config → Type 0
Ran i e c (Fill slot) d = d ≡ record c { slots = with c.slots i slot }
Ran i e c (Make v) d =
    (h : ℕ)
    × (finite_map.get c.cells h ≡ None)
    × (d ≡ record c { slots = with c.slots i (Holds (Cell h)); cells = finite_map.insert c.cells h v; ledger = counted c i e })

-- A run in place fills the register, or changes the cell of the update's source and hands its handle on.
abbrev pub source_slot : Config → List ℕ → Slot
source_slot c [] = Blank
source_slot c (m ∷ args) = c.slots m

abbrev pub RanInPlace : ℕ → Equation → Config → Effect → Config → Type 0
RanInPlace i e c (Fill slot) d = d ≡ record c { slots = with c.slots i slot }
RanInPlace i e c (Make v) d =
    (h : ℕ)
    × (source_slot c e.args ≡ Holds (Cell h))
    × (d ≡ record c { slots = with c.slots i (Holds (Cell h)); cells = finite_map.insert c.cells h v })

-- the time to which an amount leads from t, if there is such a time
abbrev pub expiry : ℕ → Option View → Option ℕ
expiry t (Some (Plain (scalar.Int (pos n)))) = if nat_lt (t + n) (2 ^ 63) then Some (t + n) else None
expiry t _ = None

-- where a delay or its second argument has an event the delay is set, or cancelled where there is no such time; else it is left
abbrev pub timed : ℕ → Config → ℕ → List ℕ → ℕ → Option ℕ
timed t c i (d ∷ r ∷ []) = if fires c i || fires c r then with c.pending i (expiry t (value_in c d)) else c.pending
timed t c i args = c.pending

abbrev pub OfEquation : Option Equation → (Equation → Type 0) → Type 0
OfEquation None P = ⊥
OfEquation (Some e) P = P e

module _ (inputs : Inputs) (t : ℕ) where
  -- The own case of equation i, with handles in place of aggregates: last values, merges, filters and choices hand on what is held, and
  -- an empty aggregate and an update get a cell with the view that the case gives.
  abbrev pub effect_of : Config → ℕ → Op → List ℕ → ValueType → Effect
  effect_of c i op.Input args of = Fill (slot_of_answer (Ok (inputs i t)))
  effect_of c i op.Last (v ∷ r ∷ []) of = Fill (if fires c r then slot_of (c.lasts v) else Blank)
  effect_of c i op.Delay args of = Fill (if option_is t (c.pending i) then Holds (Bare scalar.Unit) else Blank)
  effect_of c i op.Merge (a ∷ b ∷ []) of = Fill (slot_of (option_or (held (c.slots a)) (held (c.slots b))))
  effect_of c i op.Filter (e ∷ d ∷ []) of = Fill (slot_of (where_true (held (c.slots d)) (held (c.slots e))))
  effect_of c i op.Pick (d ∷ a ∷ b ∷ []) of =
      Fill (slot_of (where_either (held (c.slots d)) (held (c.slots a)) (held (c.slots b))))
  effect_of c i op.Empty args of = made (at_once op.Empty of (map (value_in c) args) t)
  effect_of c i o args of = effect_by (is_update o) (at_once o of (map (value_in c) args) t)

  abbrev pub effect : Config → ℕ → Equation → Effect
  effect c i e = if is_barred c e then Fill (Failed None) else effect_of c i e.op e.args e.of

  module _ (s : System) where
    -- one instruction leads from one configuration to another
    abbrev pub Step : Instr → Config → Config → Type 0
    Step (Run i) c d = OfEquation (equation s i) (λ e. Ran i e c (effect c i e) d)
    Step (RunInPlace i) c d = OfEquation (equation s i) (λ e. RanInPlace i e c (effect c i e) d)
    Step (Print k) c d = d ≡ c
    Step (Keep v) c d = d ≡ record c { lasts = with c.lasts v (option_or (held (c.slots v)) (c.lasts v)) }
    Step (Timer i) c d = OfEquation (equation s i) (λ e. d ≡ record c { pending = timed t c i e.args })

    -- instructions in order
    abbrev pub Steps : List Instr → Config → Config → Type 0
    Steps [] c d = d ≡ c
    Steps (instr ∷ more) c d = (mid : Config) × Step instr c mid × Steps more mid d
