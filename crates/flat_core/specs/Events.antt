-- What each operation makes of the events of its arguments at a time.
use Rattle.std.specs.Prelude.{◌==◌, ℕ, zero, suc, ◌-◌, Bool, true, false, not, ◌||◌, ◌&&◌, if◌then◌else◌, pos, int_le, List, [], ◌∷◌}
use Rattle.std.specs.Prelude.{Option, Some, None, is_some, Ok, Err}
use Rattle.std.specs.Option.{option_or, option_map}
use Rattle.std.specs.List.{list_any, list_all}
use Rattle.tsl_value.specs.Aggregate.{empty_of}
use Rattle.tsl_value.specs.View.{View, Plain}
use Rattle.tsl_value.specs.declared.operation.Update.{Update}
use Rattle.tsl_value.specs.declared.scalar.Scalar.TheVariants as scalar
use Rattle.tsl_value.specs.declared.scalar.ValueType.{ValueType}
use Rattle.lift_func.specs.declared.fault.FaultKind.{FaultKind}
use Rattle.lift_func.specs.declared.fault.FaultKind.TheVariants.{DelayNotPositive}
use Rattle.lift_func.specs.Apply.{Answer, apply}
use Rattle.lift_func.specs.Update.{update_answer}
use Rattle.flat_core.specs.declared.equation.Op.{Op}
use Rattle.flat_core.specs.declared.equation.Op.TheVariants as op
use Rattle.flat_core.specs.Updates.{update_in}
use Rattle.flat_core.specs.Stream.{Outcome, Event, Fault, History, event, has_event, some_before, some_between}

-- the event of each input at each time
abbrev pub Inputs : Type 0
Inputs = ℕ → ℕ → Option View

abbrev pub unit : View
unit = Plain scalar.Unit

-- a value at time 0 and nothing later
abbrev pub at_zero : ℕ → View → Option View
at_zero zero v = Some v
at_zero (suc t) v = None

abbrev pub merged : Option View → Option View → Option View
merged a b = option_or a b

-- the first where the condition is true
abbrev pub filtered : Option View → Option View → Option View
filtered e (Some (Plain (scalar.Bool true))) = e
filtered e _ = None

abbrev pub picked : Option View → Option View → Option View → Option View
picked (Some (Plain (scalar.Bool true))) (Some a) (Some b) = Some a
picked (Some (Plain (scalar.Bool false))) (Some a) (Some b) = Some b
picked _ _ _ = None

-- what an update makes of the events of its arguments, where an operation is one
abbrev pub updating : Option Update → List (Option View) → Answer
updating None values = Ok None
updating (Some u) values = update_answer u values

-- the operations that see their arguments at one time, from the arguments' events at t; no other number of arguments occurs
abbrev pub at_once : Op → ValueType → List (Option View) → ℕ → Answer
at_once op.Unit of [] t = Ok (at_zero t unit)
at_once op.Empty of [] t = Ok (at_zero t (empty_of of))
at_once (op.Lift body true) of values t = if list_all is_some values then apply body values else Ok None
at_once (op.Lift body false) of values t = if list_any is_some values then apply body values else Ok None
at_once op.Any of values t = Ok (if list_any is_some values then Some unit else None)
at_once op.Time of (a ∷ []) t = Ok (option_map (λ _. Plain (scalar.Int (pos t))) a)
at_once op.Merge of (a ∷ b ∷ []) t = Ok (merged a b)
at_once op.Filter of (a ∷ c ∷ []) t = Ok (filtered a c)
at_once op.Pick of (c ∷ a ∷ b ∷ []) t = Ok (picked c a b)
at_once o of values t = updating (update_in o) values

-- an amount that leads from one time to another which is n later
abbrev pub waits : Option View → ℕ → Bool
waits (Some (Plain (scalar.Int (pos m)))) n = m == n
waits _ n = false

-- At some earlier time u the amount led to t, and the second argument or the delay itself had an event, and the second
-- argument has had none since.
abbrev pub expires : History → History → History → ℕ → Bool
expires amount reset delay t =
    some_before t (λ u. waits (event (amount u)) (t - u) && (has_event (reset u) || has_event (delay u))
    && not (some_between u t (λ w. has_event (reset w))))

-- what happens by an answer
abbrev pub outcome_of : Answer → Option Outcome
outcome_of (Ok None) = None
outcome_of (Ok (Some v)) = Some (Event v)
outcome_of (Err kind) = Some Fault

-- the fault of an answer
abbrev pub fault_of : Answer → Option FaultKind
fault_of (Ok v) = None
fault_of (Err kind) = Some kind

-- an amount that is not positive is a fault
abbrev pub refused : Option View → Option FaultKind
refused (Some (Plain (scalar.Int n))) = if int_le n (pos 0) then Some DelayNotPositive else None
refused _ = None
