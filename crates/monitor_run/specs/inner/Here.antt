-- What an equation has by the registers of its arguments.
use Rattle.std.specs.Prelude.{◌≡◌, ℕ, Bool, true, false, List, [], ◌∷◌, map, Option, Some, None, Result, Ok, Err, is_some, IsTrue}
use Rattle.std.specs.Prelude.{IfOk, slice_get, slice_index, slice_index_or, slice_set, if◌then◌else◌}
use Rattle.std.specs.List.{All, list_any}
use Rattle.std.specs.Option.{option_or}
use Rattle.std.specs.FinMap as finite_map
use Rattle.tsl_value.specs.declared.operation.Update.{Update}
use Rattle.tsl_value.specs.declared.operation.Update.TheVariants as update
use Rattle.tsl_value.specs.declared.scalar.Scalar.TheVariants as scalar
use Rattle.tsl_value.specs.declared.scalar.ValueType.{ValueType}
use Rattle.tsl_value.specs.View.{View, is_of}
use Rattle.lift_func.specs.BodyTree.{BodyTree, Argument}
use Rattle.body_eval.specs.declared.eval.EvalFault.{EvalFault}
use Rattle.body_eval.specs.declared.eval.EvalFault.TheVariants as eval_fault
use Rattle.body_eval.specs.declared.register.Register.{Register}
use Rattle.body_eval.specs.declared.register.Register.TheVariants as register
use Rattle.cell_reader.specs.inner.Cells.{Cells, IsLive, view_at}
use Rattle.body_eval.specs.inner.Registers.{HoldsLive, held}
use Rattle.lift_func.specs.Update.{UpdateTypes}
use Rattle.lift_func.specs.Apply.{Answer}
use Rattle.body_eval.specs.inner.Evaluable.{IsHeldValue}
use Rattle.aggregate_store.specs.inner.Stored.{Stored, counted}
use Rattle.flat_core.specs.declared.equation.Equation.{Equation}
use Rattle.flat_core.specs.declared.equation.Op.{Op}
use Rattle.flat_core.specs.declared.equation.Op.TheVariants as op
use Rattle.flat_core.specs.Case.{used_of}
use Rattle.flat_core.specs.Typed.{IsTyped}
use Rattle.flat_core.specs.inner.TypedEvents.{AreOf}
use Rattle.flat_core.specs.Updates.{is_update}
use Rattle.register_machine.specs.Copied.{size_at}
use Rattle.register_machine.specs.Machine.{Held, Bare, Failed, slot_of, where_true, where_either, Effect, Fill, Make, effect_of}
use Rattle.monitor_run.specs.inner.Registers.{IsHeldOf, register_at, value_at}
use Rattle.monitor_run.specs.inner.Shown.{config_of, held_at, held_by}

-- what an equation's arguments have is of types that its operation takes, and aggregates are in live cells
pub record TakesTyped (cells : Cells) (registers : List Register) (e : Equation) : Type 0 where
  pub types : List ValueType
  pub typed : IsTyped e.op types e.of
  pub values : AreOf types (map (value_at cells registers) e.args)
  pub live : All (λ a. HoldsLive cells (register_at registers a)) e.args

abbrev pub is_marked : List Bool → ℕ → Bool
is_marked faulted i = slice_index_or faulted i false

-- an argument that is used at the same time is a fault
abbrev pub is_blocked_here : List Bool → Op → List ℕ → Bool
is_blocked_here faulted o args = list_any (is_marked faulted) (used_of o args)

-- The cells that were there stay, each with a view of its type.
pub record StayTyped (types : ℕ → ValueType) (old new : Cells) : Type 0 where
  pub live : (handle : ℕ) → IsLive old handle → IsLive new handle
  pub typed : (handle : ℕ)
      → IsLive old handle
      → IsTrue (is_of (types handle) (view_at old handle))
      → IsTrue (is_of (types handle) (view_at new handle))

-- the tree is an argument, and this is the one
abbrev pub IsNamed : BodyTree → List ℕ → ℕ → Type 0
IsNamed tree args a = (k : ℕ) × (tree ≡ Argument k) × (slice_get args k ≡ Some a)

-- what a condition says, if it has an event
abbrev pub truth_of : Option Held → Option Bool
truth_of (Some (Bare (scalar.Bool b))) = Some b
truth_of _ = None

-- what a merge, a filter and a choice hand on
abbrev pub chosen_of : Op → List (Option Held) → Option Held
chosen_of op.Merge (a ∷ b ∷ []) = option_or a b
chosen_of op.Filter (a ∷ c ∷ []) = where_true c a
chosen_of op.Pick (c ∷ a ∷ b ∷ []) = where_either c a b
chosen_of _ _ = None

-- operations that hand on the event of an argument, or a last one
abbrev pub hands_on : Op → Bool
hands_on op.Last = true
hands_on op.Merge = true
hands_on op.Filter = true
hands_on op.Pick = true
hands_on _ = false

-- what they hand on
abbrev pub handed_of : List Register → List Register → Op → List ℕ → Option Held
handed_of registers last op.Last args =
    if is_some (held_at registers (slice_index args 1)) then held_at last (slice_index args 0) else None
handed_of registers last o args = chosen_of o (map (held_at registers) args)

-- the register at a place has what is handed on, and the others stay
abbrev pub HasHanded : ℕ → Option Held → List Register → List Register → Type 0
HasHanded place h old new = (r : Register) × (new ≡ slice_set old place r) × (held_by r ≡ h)

-- registers are of these types
abbrev pub AreHeldOf : Cells → List ValueType → List Register → Type 0
AreHeldOf cells [] [] = Unit {0}
AreHeldOf cells (t ∷ types) (r ∷ registers) = IsHeldOf cells t r × AreHeldOf cells types registers
AreHeldOf cells _ _ = ⊥

-- an update's aggregate and the values beside it, in these registers; each may be absent
pub record TakesUpdate (cells : Cells) (u : Update) (registers : List Register) : Type 0 where
  pub of : ValueType
  pub types : List ValueType
  pub row : UpdateTypes u of types
  pub held_are : AreHeldOf cells (of ∷ types) registers

-- the update takes a key out
abbrev pub IsRemoval : Update → Type 0
IsRemoval update.SetRemove = Unit {0}
IsRemoval update.MapRemove = Unit {0}
IsRemoval _ = ⊥

-- the register holds no scalar
abbrev pub HoldsNoScalar : Register → Type 0
HoldsNoScalar (register.Scalar s) = ⊥
HoldsNoScalar _ = Unit {0}

-- the register holds no aggregate
abbrev pub IsBare : Register → Type 0
IsBare (register.Aggregate handle) = ⊥
IsBare _ = Unit {0}

-- A cell was made under a handle that was not live.
pub record IsMade (old new : Cells) (v : View) (r : Register) : Type 0 where
  pub handle : ℕ
  pub is : r ≡ register.Aggregate handle
  pub fresh : ¬ (IsLive old handle)
  pub cells : new ≡ finite_map.insert old handle v

-- the register of a cell, if there is one
abbrev pub register_of : Option ℕ → Register
register_of None = register.Empty
register_of (Some handle) = register.Aggregate handle

-- a cell was made for a view, if there is one, and the ledger is as it was
abbrev pub HasMadeOne : Stored → Stored → Register → Option View → Type 0
HasMadeOne old new r None = (r ≡ register.Empty) × (new ≡ old)
HasMadeOne old new r (Some v) = IsMade old.cells new.cells v r × (new.ledger ≡ old.ledger)

-- An update has run: without an event all is as it was. Its copy is a new cell, and the ledger has counted it. In place the cell of the
-- source is changed, its handle is handed on, and nothing is counted.
abbrev pub HasUpdated : Bool → ℕ → Register → Stored → Stored → Register → Option View → Type 0
HasUpdated in_place i source old new r None = (r ≡ register.Empty) × (new ≡ old)
HasUpdated false i source old new r (Some v) =
    IsMade old.cells new.cells v r × (new.ledger ≡ counted old.ledger i (size_at (held old.cells source)))
HasUpdated true i source old new r (Some v) =
    (handle : ℕ)
    × (source ≡ register.Aggregate handle)
    × (r ≡ register.Aggregate handle)
    × (new ≡ record old { cells = finite_map.insert old.cells handle v })

-- the register of what an update made, or why it made nothing
abbrev pub made_of : Result (Option ℕ) EvalFault → Result Register EvalFault
made_of (Ok made) = Ok (register_of made)
made_of (Err fault) = Err fault

-- what an update has by its case: its aggregate, or nothing; a fault changes nothing
abbrev pub HasAnswer : Bool → ℕ → Register → Stored → Stored → Result Register EvalFault → Answer → Type 0
HasAnswer in_place i source old new (Ok r) (Ok v) = HasUpdated in_place i source old new r v
HasAnswer in_place i source old new (Ok r) (Err kind) = ⊥
HasAnswer in_place i source old new (Err (eval_fault.Fault kind)) answer = (answer ≡ Err kind) × (new ≡ old)
HasAnswer in_place i source old new (Err eval_fault.Memory) answer = Unit {0}

abbrev pub first_of : List (Option View) → Option View
first_of [] = None
first_of (v ∷ values) = v

abbrev pub source_of : List Register → List ℕ → Register
source_of registers [] = register.Empty
source_of registers (m ∷ args) = register_at registers m

-- An effect has come: the register is filled, or it has the cell that was made or changed.
abbrev pub HasMade : Bool → Bool → ℕ → Register → Stored → Stored → Register → View → Type 0
HasMade true in_place i source old new r v = HasUpdated in_place i source old new r (Some v)
HasMade false in_place i source old new r v = HasMadeOne old new r (Some v)

abbrev pub HasEffect : Bool → ℕ → Op → Register → Stored → Stored → Result Register EvalFault → Effect → Type 0
HasEffect in_place i o source old new (Ok r) (Fill slot) = (slot ≡ slot_of (held_by r)) × (new ≡ old)
HasEffect in_place i o source old new (Ok r) (Make v) = HasMade (is_update o) in_place i source old new r v
HasEffect in_place i o source old new (Err (eval_fault.Fault kind)) (Fill slot) = (slot ≡ Failed (Some kind)) × (new ≡ old)
HasEffect in_place i o source old new (Err (eval_fault.Fault kind)) (Make v) = ⊥
HasEffect in_place i o source old new (Err eval_fault.Memory) effect = Unit {0}

-- A place has the register of an answer, and the others stay.
abbrev pub HasPut : ℕ → List Register → List Register → Result (Unit {0}) EvalFault → (Result Register EvalFault → Type 0) → Type 0
HasPut place old new (Ok done) P = (r : Register) × (new ≡ slice_set old place r) × P (Ok r)
HasPut place old new (Err fault) P = P (Err fault)

-- an answer of a body is in a register that holds no aggregate
abbrev pub IsBareValue : Cells → Result Register EvalFault → Answer → Type 0
IsBareValue cells r answer = IfOk r (λ x. IsBare x) × IsHeldValue cells r answer

-- inputs and delays have their events in their registers from the beginning of the instant
abbrev pub is_given_op : Op → Bool
is_given_op op.Input = true
is_given_op op.Delay = true
is_given_op _ = false

-- what the own case of an equation does by the registers
abbrev pub effect_here : List Register → List Register → Stored → ℕ → ℕ → Equation → Effect
effect_here registers last store i t e = effect_of (λ j u. None) t (config_of registers last store) i e.op e.args e.of
