-- What bodies are evaluated over cells, and how what comes of it stands for their values.
use Rattle.std.specs.Prelude.{◌≡◌, ℕ, ◌<◌, Bool, true, false, IsTrue, List, length, Option, Result, Ok, Err, slice_index_or, All}
use Rattle.tsl_value.specs.View.{View}
use Rattle.tsl_value.specs.declared.scalar.ValueType.TheVariants as value_type
use Rattle.tsl_value.specs.declared.operation.Unary.{Unary}
use Rattle.tsl_value.specs.declared.operation.Binary.{Binary}
use Rattle.tsl_value.specs.declared.operation.Binary.TheVariants as binary
use Rattle.body_eval.specs.declared.eval.EvalFault.{EvalFault}
use Rattle.body_eval.specs.declared.eval.EvalFault.TheVariants as eval_fault
use Rattle.lift_func.specs.declared.fault.FaultKind.{FaultKind}
use Rattle.body_eval.specs.declared.register.Register.{Register}
use Rattle.body_eval.specs.declared.register.Register.TheVariants as register
use Rattle.lift_func.specs.Apply.{Answer}
use Rattle.cell_reader.specs.inner.Cells.{Cells, FitsKey, IsMap, view_at}
use Rattle.body_eval.specs.inner.Registers.{HoldsLive, arguments, held}
use Rattle.lift_func.specs.BodyTree.{BodyTree}
use Rattle.lift_func.specs.Typing.{ValueKind, Value, Optional, TypesOne, HasKind, AllFit, fits}

-- The body has a kind at the registers that the arguments name: they are there, what they hold is of some kinds, their
-- aggregates are in live cells, and the body is well typed for these kinds.
pub record IsTypedAt (cells : Cells) (registers : List Register) (args : List ℕ) (tree : BodyTree) : Type 0 where
  pub kinds : List ValueKind
  pub kind : ValueKind
  pub named : All (λ a. a < length registers) args
  pub live : All (λ a. HoldsLive cells (slice_index_or registers a register.Empty)) args
  pub fit : AllFit kinds (arguments cells registers args)
  pub typed : HasKind kinds tree kind

-- a scalar, or an option of one
abbrev pub IsScalarKind : ValueKind → Type 0
IsScalarKind (Value (value_type.Scalar t)) = Unit {0}
IsScalarKind (Optional (value_type.Scalar t)) = Unit {0}
IsScalarKind _ = ⊥

-- the body can be evaluated: it is so typed, and its value is a scalar or an option of one
pub record IsEvaluable (cells : Cells) (registers : List Register) (args : List ℕ) (tree : BodyTree) : Type 0 where
  pub body : IsTypedAt cells registers args tree
  pub scalar : IsScalarKind body.kind

-- the operations that read an aggregate at a key
abbrev pub is_read : Binary → Bool
is_read binary.Contains = true
is_read binary.Get = true
is_read _ = false

-- the operands of such an operation: an aggregate and a key of its keys' type
abbrev pub CanRead : Cells → Binary → Register → Register → Type 0
CanRead cells binary.Contains (register.Aggregate handle) (register.Scalar key) = FitsKey (view_at cells handle) key
CanRead cells binary.Get (register.Aggregate handle) (register.Scalar key) =
    IsMap (view_at cells handle) × FitsKey (view_at cells handle) key
CanRead cells _ _ _ = ⊥

-- the operand has a kind that the operation takes
pub record FitsOperand (o : Unary) (v : Option View) : Type 0 where
  pub kind : ValueKind
  pub to : ValueKind
  pub types : TypesOne o kind to
  pub fit : IsTrue (fits kind v)

-- the register is what an answer gives, and its cell is live
abbrev pub IsHeld : Cells → Register → Answer → Type 0
IsHeld cells r answer = (answer ≡ Ok (held cells r)) × HoldsLive cells r

-- what the code answers is this answer
abbrev pub IsHeldAnswer : Cells → Result Register FaultKind → Answer → Type 0
IsHeldAnswer cells (Ok r) answer = IsHeld cells r answer
IsHeldAnswer cells (Err kind) answer = answer ≡ Err kind

-- the same, or that it is out of memory
abbrev pub IsHeldValue : Cells → Result Register EvalFault → Answer → Type 0
IsHeldValue cells (Ok r) answer = IsHeld cells r answer
IsHeldValue cells (Err (eval_fault.Fault kind)) answer = answer ≡ Err kind
IsHeldValue cells (Err eval_fault.Memory) answer = Unit {0}
