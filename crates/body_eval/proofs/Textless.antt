-- Bodies in which no text comes up.
use Rattle.std.proofs.Common.{◌≡◌, ℕ, false, List, Option, Some, None, Result, Ok, Err, refl, sym, subst}
use Rattle.std.specs.Prelude.{IsTrue, slice_index_or}
use Rattle.std.specs.Option.{option_map}
use Rattle.std.proofs.lemmas.Bool.{false≢true}
use Rattle.tsl_value.specs.View.{View, Plain, Keyed, Mapped, Listed, type_of}
use Rattle.tsl_value.specs.declared.scalar.Scalar.{Scalar}
use Rattle.tsl_value.specs.declared.scalar.Scalar.TheVariants as scalar
use Rattle.tsl_value.specs.declared.scalar.ScalarType.{ScalarType}
use Rattle.tsl_value.specs.declared.scalar.ScalarType.TheVariants as scalar_type
use Rattle.tsl_value.specs.declared.scalar.ValueType.TheVariants as value_type
use Rattle.tsl_value.specs.declared.operation.Unary.{Unary}
use Rattle.tsl_value.specs.declared.operation.Binary.{Binary}
use Rattle.body_eval.specs.declared.eval.EvalFault.{EvalFault}
use Rattle.body_eval.specs.declared.eval.EvalFault.TheVariants as eval_fault
use Rattle.body_eval.specs.declared.register.Register.{Register}
use Rattle.body_eval.specs.declared.register.Register.TheVariants as register
use Rattle.lift_func.specs.Apply.{Answer, and_then, apply, of_one, of_two}
use Rattle.cell_reader.specs.inner.Cells.{Cells}
use Rattle.body_eval.specs.inner.Registers.{held, scalar_in}
use Rattle.body_eval.specs.inner.Textless.{IsText, IsNoText, HasNoText, IsAnswered, is_text, IsNoTextKind, IsTextless}
use Rattle.lift_func.specs.BodyTree.{BodyTree, Literal, Argument, Absent, One, Two, Choice}
use Rattle.lift_func.specs.Typing as typing
use Rattle.lift_func.specs.Typing.{ValueKind, Value, Optional, HasKind, AllFit, FitsAnswer, fits, plain}
use Rattle.lift_func.proofs.Fits.{apply_fits}

-- ---- what is a text
pub text_type : (s : Scalar) → type_of s ≡ scalar_type.Text → IsText (Some (Plain s))
text_type scalar.Unit is = absurd (cc)
text_type (scalar.Int z) is = absurd (cc)
text_type (scalar.Bool b) is = absurd (cc)
text_type (scalar.Text bytes) is = tt

pub plain_text : (s : Scalar) → IsNoText (Ok (Some (Plain s))) → type_of s ≡ scalar_type.Text → ⊥
plain_text s none is = none (text_type s is)

-- what a register holds is a text where its scalar is one
pub held_no_text : (cells : Cells) (r : Register) → IsNoText (Ok (held cells r)) → IsText (option_map Plain (scalar_in r)) → ⊥
held_no_text cells register.Empty none is = is
held_no_text cells (register.Scalar s) none is = none is
held_no_text cells (register.Aggregate handle) none is = is

-- ---- the parts of a body without texts
pub no_text : (tree : BodyTree) (values : List (Option View)) → HasNoText tree values → IsNoText (apply tree values)
no_text (Literal s) values none = none
no_text (Argument n) values none = none
no_text (Absent of) values none = λ is. is
no_text (One o a) values none = none.0
no_text (Two o a b) values none = none.0
no_text (Choice c a b) values none = none.0

module _ (tree : BodyTree) (values : List (Option View)) (none : HasNoText tree values) where
  pub literal_no_text : (s : Scalar) → tree ≡ Literal s → type_of s ≡ scalar_type.Text → ⊥
  literal_no_text s is text = subst (λ t. HasNoText t values) is none (text_type s text)

  pub argument_no_text : (n : ℕ) → tree ≡ Argument n → IsText (slice_index_or values n None) → ⊥
  argument_no_text n is text = subst (λ t. HasNoText t values) is none text

  pub operand_no_text : (o : Unary) (a : BodyTree) → tree ≡ One o a → HasNoText a values
  operand_no_text o a is = (subst (λ t. HasNoText t values) is none).1

  pub first_no_text : (o : Binary) (a b : BodyTree) → tree ≡ Two o a b → HasNoText a values
  first_no_text o a b is = (subst (λ t. HasNoText t values) is none).1

  pub second_no_text : (o : Binary) (a b : BodyTree) → tree ≡ Two o a b → HasNoText b values
  second_no_text o a b is = (subst (λ t. HasNoText t values) is none).2

  pub one_no_text : (o : Unary) (a : BodyTree) (x : Option View) → tree ≡ One o a → apply a values ≡ Ok x → IsNoText (of_one o x)
  one_no_text o a x is value = subst (λ v. IsNoText (and_then v (of_one o))) value (no_text (One o a) values (subst (λ t. HasNoText t values) is none))

  -- the answer of an operation whose operands are known
  pub both_no_text : (o : Binary) (a b : BodyTree) (x y : Option View) → tree ≡ Two o a b → apply a values ≡ Ok x → apply b values ≡ Ok y → IsNoText (of_two o (Ok x) (Ok y))
  both_no_text o a b x y is first second =
      subst (λ v. IsNoText (of_two o (Ok x) v)) second (subst (λ v. IsNoText (of_two o v (apply b values))) first (no_text (Two o a b) values (subst (λ t. HasNoText t values) is none)))

  pub condition_no_text : (c a b : BodyTree) → tree ≡ Choice c a b → HasNoText c values
  condition_no_text c a b is = (subst (λ t. HasNoText t values) is none).1

  pub then_no_text : (c a b : BodyTree) → tree ≡ Choice c a b → HasNoText a values
  then_no_text c a b is = (subst (λ t. HasNoText t values) is none).2

  pub else_no_text : (c a b : BodyTree) → tree ≡ Choice c a b → HasNoText b values
  else_no_text c a b is = (subst (λ t. HasNoText t values) is none).3

-- ---- what is not out of memory
pub same_answered : {A : Type 0} (r : Result A EvalFault) (y e : EvalFault) → r ≡ Err y → y ≡ e → (let other : Result Register EvalFault = Err e in IsAnswered other) → IsAnswered r
same_answered (Ok x) y e is same h = tt
same_answered (Err (eval_fault.Fault kind)) y e is same h = tt
same_answered (Err eval_fault.Memory) y (eval_fault.Fault kind) is same h = absurd (cc)
same_answered (Err eval_fault.Memory) y eval_fault.Memory is same h = h

-- ---- bodies without parts of a text's type
plain_no_text : (t : ScalarType) (s : Scalar) → is_text (plain t) ≡ false → IsTrue (fits (plain t) (Some (Plain s))) → IsText (Some (Plain s)) → ⊥
plain_no_text scalar_type.Text s none fit is = false≢true (sym none)
plain_no_text scalar_type.Unit (scalar.Text bytes) none fit is = false≢true fit
plain_no_text scalar_type.Int (scalar.Text bytes) none fit is = false≢true fit
plain_no_text scalar_type.Bool (scalar.Text bytes) none fit is = false≢true fit
plain_no_text t scalar.Unit none fit is = is
plain_no_text t (scalar.Int z) none fit is = is
plain_no_text t (scalar.Bool b) none fit is = is

value_no_text : (k : ValueKind) (v : Option View) → is_text k ≡ false → IsTrue (fits k v) → IsText v → ⊥
value_no_text k None none fit is = is
value_no_text k (Some (Keyed s)) none fit is = is
value_no_text k (Some (Mapped m)) none fit is = is
value_no_text k (Some (Listed xs)) none fit is = is
value_no_text (Value (value_type.Scalar t)) (Some (Plain s)) none fit is = plain_no_text t s none fit is
value_no_text (Value (value_type.Set k)) (Some (Plain s)) none fit is = false≢true fit
value_no_text (Value (value_type.Map k t)) (Some (Plain s)) none fit is = false≢true fit
value_no_text (Value (value_type.Queue t)) (Some (Plain s)) none fit is = false≢true fit
value_no_text (Optional (value_type.Scalar t)) (Some (Plain s)) none fit is = plain_no_text t s (optional_none t none) fit is
  where
    optional_none : (t : ScalarType) → is_text (Optional (value_type.Scalar t)) ≡ false → is_text (plain t) ≡ false
    optional_none scalar_type.Unit none = refl
    optional_none scalar_type.Int none = refl
    optional_none scalar_type.Bool none = refl
    optional_none scalar_type.Text none = none
value_no_text (Optional (value_type.Set k)) (Some (Plain s)) none fit is = false≢true fit
value_no_text (Optional (value_type.Map k t)) (Some (Plain s)) none fit is = false≢true fit
value_no_text (Optional (value_type.Queue t)) (Some (Plain s)) none fit is = false≢true fit

answer_no_text : (k : ValueKind) (answer : Answer) → is_text k ≡ false → FitsAnswer k answer → IsNoText answer
answer_no_text k (Ok v) none fit = value_no_text k v none fit
answer_no_text k (Err kind) none fit = tt

module _ (kinds : List ValueKind) (values : List (Option View)) (all : AllFit kinds values) where
  own_no_text : (tree : BodyTree) (k : ValueKind) → HasKind kinds tree k → IsNoTextKind kinds tree → IsNoText (apply tree values)
  own_no_text tree k typed none = answer_no_text k (apply tree values) (none k typed) (apply_fits kinds values all typed)

  pub textless : {tree : BodyTree} {k : ValueKind} → HasKind kinds tree k → IsTextless kinds tree → HasNoText tree values
  textless (typing.literal {s = s} {t = t} is) none = own_no_text (Literal s) (plain t) (typing.literal is) none
  textless (typing.argument {n = n} {k = k} is) none = own_no_text (Argument n) k (typing.argument is) none
  textless typing.absent none = tt
  textless (typing.one {o = o} {a = a} {k = k} p types) none = (own_no_text (One o a) k (typing.one p types) none.0, textless p none.1)
  textless (typing.two {o = o} {a = a} {b = b} {k = k} p q types) none = (own_no_text (Two o a b) k (typing.two p q types) none.0, textless p none.1, textless q none.2)
  textless (typing.choice {c = c} {a = a} {b = b} {k = k} o p q) none = (own_no_text (Choice c a b) k (typing.choice o p q) none.0, textless o none.1, textless p none.2, textless q none.3)
