-- What each construct of the language makes of the streams of its parts at a time.
use Rattle.std.specs.Prelude.{ℕ, zero, suc, Bool, ◌&&◌, if◌then◌else◌, pos, List, [], ◌∷◌, map, drop, Option, Some, None, is_some, Ok}
use Rattle.std.specs.Option.{option_or, option_map}
use Rattle.std.specs.List.{list_any, list_all}
use Rattle.tsl_value.specs.View.{View, Plain}
use Rattle.tsl_value.specs.declared.scalar.Scalar.{Scalar}
use Rattle.tsl_value.specs.declared.scalar.Scalar.TheVariants as scalar
use Rattle.tsl_value.specs.declared.scalar.ValueType.{ValueType}
use Rattle.lift_func.specs.declared.fault.FaultKind.{FaultKind}
use Rattle.lift_func.specs.BodyTree as body
use Rattle.lift_func.specs.BodyTree.{BodyTree}
use Rattle.lift_func.specs.Apply.{Answer, apply}
use Rattle.lift_func.specs.Update.{update_answer}
use Rattle.flat_core.specs.Stream.{Outcome, Fault, History, event, has_event, is_fault, latest}
use Rattle.flat_core.specs.Events.{Inputs, unit, at_zero, merged, filtered, expires, outcome_of, fault_of, refused}
use Rattle.tsl_value.specs.Aggregate.{empty_of}
use Rattle.tsl_value.specs.declared.operation.Update.{Update as UpdateOp}

-- An operand is a literal, or it varies: then its stream is one of those that are given.
pub data Operand : Type 0 where
  Fixed : Scalar → Operand
  Varying : Operand

pub data Construct : Type 0 where
  -- a name, or a call of a macro: the stream that it stands for
  Same : Construct
  -- an input, by its number among the inputs
  Input : ℕ → Construct
  Nil : Construct
  Unit : Construct
  Literal : Scalar → Construct
  -- the aggregate of a type that has no element
  Empty : ValueType → Construct
  Time : Construct
  Last : Construct
  -- its parts are the amount, the reset, and the delay itself
  Delay : Construct
  Merge : Construct
  Const : Scalar → Construct
  -- by a condition that varies, and by one that is a literal
  Filter : Construct
  FilterBy : Bool → Construct
  -- `lift`, with the body of its function
  Lift : BodyTree → Construct
  -- an operation on streams: a body over the current values of its parts. Operands that are literals stand in the body.
  Signal : BodyTree → Construct
  -- an update of an aggregate
  Update : UpdateOp → List Operand → Construct

-- operands in a body: a literal is itself, and the others are arguments, the first of which has this number
abbrev pub operand_trees : ℕ → List Operand → List BodyTree
operand_trees k [] = []
operand_trees k (Fixed s ∷ os) = body.Literal s ∷ operand_trees k os
operand_trees k (Varying ∷ os) = body.Argument k ∷ operand_trees (suc k) os

-- the event at a time, or else the latest one before
abbrev pub now : History → ℕ → Option View
now h t = option_or (event (h t)) (latest h t)

-- the values of operands, where those that vary have these
abbrev pub operand_values : List Operand → List (Option View) → List (Option View)
operand_values [] vs = []
operand_values (Fixed s ∷ os) vs = Some (Plain s) ∷ operand_values os vs
operand_values (Varying ∷ os) [] = None ∷ operand_values os []
operand_values (Varying ∷ os) (v ∷ vs) = v ∷ operand_values os vs

-- A function of current values: where some part has an event and each has a current value. Without parts it is at 0 alone.
abbrev pub signal : (List (Option View) → Answer) → List History → ℕ → Answer
signal f [] zero = f []
signal f [] (suc t) = Ok None
signal f (h ∷ hs) t =
    if list_any (λ g. has_event (g t)) (h ∷ hs) && list_all (λ g. is_some (now g t)) (h ∷ hs)
    then f (map (λ g. now g t) (h ∷ hs)) else Ok None

-- a function of options: where some part has an event
abbrev pub lift_of_options : BodyTree → List (Option View) → Answer
lift_of_options f vs = if list_any is_some vs then apply f vs else Ok None

-- The own case of a construct. The last line stands for other numbers of parts, which no accepted specification has.
abbrev pub own : Inputs → Construct → List History → ℕ → Answer
own inputs Same (a ∷ []) t = Ok (event (a t))
own inputs (Input k) [] t = Ok (inputs k t)
own inputs Nil [] t = Ok None
own inputs Unit [] t = Ok (at_zero t unit)
own inputs (Literal s) [] t = Ok (at_zero t (Plain s))
own inputs (Empty of) [] t = Ok (at_zero t (empty_of of))
own inputs Time (a ∷ []) t = Ok (option_map (λ _. Plain (scalar.Int (pos t))) (event (a t)))
own inputs Last (v ∷ r ∷ []) t = Ok (if has_event (r t) then latest v t else None)
own inputs Delay (d ∷ r ∷ x ∷ []) t = Ok (if expires d r x t then Some unit else None)
own inputs Merge (a ∷ b ∷ []) t = Ok (merged (event (a t)) (event (b t)))
own inputs (Const s) (a ∷ []) t = Ok (option_map (λ _. Plain s) (event (a t)))
own inputs Filter (a ∷ c ∷ []) t = Ok (filtered (event (a t)) (now c t))
own inputs (FilterBy b) (a ∷ []) t = Ok (if b then event (a t) else None)
own inputs (Lift f) hs t = lift_of_options f (map (λ h. event (h t)) hs)
own inputs (Signal f) hs t = signal (apply f) hs t
own inputs (Update o os) hs t = signal (λ vs. update_answer o (operand_values os vs)) hs t
own inputs c hs t = Ok None

-- the parts that are used at the same time: all but the first of a `last` and those of a `delay`
abbrev pub used : Construct → List History → List History
used Last hs = drop 1 hs
used Delay hs = []
used c hs = hs

abbrev pub is_blocked : Construct → List History → ℕ → Bool
is_blocked c hs t = list_any (λ h. is_fault (h t)) (used c hs)

-- what happens: a fault of a part that is used at the same time is passed on, and else it is the own case
abbrev pub outcome : Inputs → Construct → List History → ℕ → Option Outcome
outcome inputs c hs t = if is_blocked c hs t then Some Fault else outcome_of (own inputs c hs t)

-- the root fault: the own case faults, and nothing that is used at the same time does; or the amount of a delay is not positive
abbrev pub root : Inputs → Construct → List History → ℕ → Option FaultKind
root inputs Delay (d ∷ hs) t = refused (event (d t))
root inputs c hs t = if is_blocked c hs t then None else fault_of (own inputs c hs t)
