-- Bodies in which no text comes up. Their evaluation takes no memory.
use Rattle.std.specs.Prelude.{◌≡◌, Bool, true, false, List, Option, Some, Result, Ok, Err}
use Rattle.tsl_value.specs.View.{View, Plain}
use Rattle.tsl_value.specs.declared.scalar.Scalar.TheVariants as scalar
use Rattle.tsl_value.specs.declared.scalar.ScalarType.TheVariants as scalar_type
use Rattle.tsl_value.specs.declared.scalar.ValueType.TheVariants as value_type
use Rattle.body_eval.specs.declared.eval.EvalFault.{EvalFault}
use Rattle.body_eval.specs.declared.eval.EvalFault.TheVariants as eval_fault
use Rattle.lift_func.specs.Apply.{Answer, apply}
use Rattle.lift_func.specs.BodyTree.{BodyTree, Literal, Argument, Absent, One, Two, Choice}
use Rattle.lift_func.specs.Typing.{ValueKind, Value, Optional, HasKind, AllFit}

-- the value is a text
abbrev pub IsText : Option View → Type 0
IsText (Some (Plain (scalar.Text bytes))) = Unit {0}
IsText _ = ⊥

-- what a body gives is no text
abbrev pub IsNoText : Answer → Type 0
IsNoText (Ok v) = IsText v → ⊥
IsNoText (Err kind) = Unit {0}

-- neither the body nor a literal, an argument or an operation in it gives a text
abbrev pub HasNoText : BodyTree → List (Option View) → Type 0
HasNoText (Literal s) args = IsNoText (apply (Literal s) args)
HasNoText (Argument n) args = IsNoText (apply (Argument n) args)
HasNoText (Absent of) args = Unit {0}
HasNoText (One o a) args = IsNoText (apply (One o a) args) × HasNoText a args
HasNoText (Two o a b) args = IsNoText (apply (Two o a b) args) × HasNoText a args × HasNoText b args
HasNoText (Choice c a b) args = IsNoText (apply (Choice c a b) args) × HasNoText c args × HasNoText a args × HasNoText b args

-- the answer is not that it was out of memory
abbrev pub IsAnswered : {A : Type 0} → Result A EvalFault → Type 0
IsAnswered (Err eval_fault.Memory) = ⊥
IsAnswered _ = Unit {0}

-- a text or an option of one
abbrev pub is_text : ValueKind → Bool
is_text (Value (value_type.Scalar scalar_type.Text)) = true
is_text (Optional (value_type.Scalar scalar_type.Text)) = true
is_text _ = false

-- the tree is of no kind of texts, and neither is any part of it
abbrev pub IsNoTextKind : List ValueKind → BodyTree → Type 0
IsNoTextKind kinds tree = (k : ValueKind) → HasKind kinds tree k → is_text k ≡ false

abbrev pub IsTextless : List ValueKind → BodyTree → Type 0
IsTextless kinds (Literal s) = IsNoTextKind kinds (Literal s)
IsTextless kinds (Argument n) = IsNoTextKind kinds (Argument n)
IsTextless kinds (Absent of) = Unit {0}
IsTextless kinds (One o a) = IsNoTextKind kinds (One o a) × IsTextless kinds a
IsTextless kinds (Two o a b) = IsNoTextKind kinds (Two o a b) × IsTextless kinds a × IsTextless kinds b
IsTextless kinds (Choice c a b) =
    IsNoTextKind kinds (Choice c a b) × IsTextless kinds c × IsTextless kinds a × IsTextless kinds b

-- a well typed body without literal, argument and operation of a text gives no text on its way
abbrev pub TextlessBodies : Type 0
TextlessBodies =
    (kinds : List ValueKind) (values : List (Option View)) (tree : BodyTree) (k : ValueKind) →
    AllFit kinds values →
    HasKind kinds tree k →
    IsTextless kinds tree →
    HasNoText tree values
