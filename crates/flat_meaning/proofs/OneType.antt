-- The type of a construct follows from those of its parts.
use Rattle.std.proofs.Common.{◌≡◌, Bool, true, false, List, [], ◌∷◌, map, Option, Some, refl, ap, sym, subst, ◌∙◌}
use Rattle.std.specs.Prelude.{slice_get}
use Rattle.std.proofs.lemmas.Bool.{true≢false}
use Rattle.std.proofs.lemmas.Option.{same_Some}
use Rattle.tsl_value.specs.View.{type_of}
use Rattle.tsl_value.specs.declared.scalar.ValueType.{ValueType}
use Rattle.tsl_value.specs.declared.scalar.ValueType.TheVariants as value_type
use Rattle.lift_func.specs.Typing.{ValueKind, Value, Optional, HasKind}
use Rattle.lift_func.specs.Typing as typing
use Rattle.flat_core.specs.Typed.{unit_type, int_type, bool_type}
use Rattle.stream_constructs.specs.declared.construct.Stream.{Stream}
use Rattle.stream_constructs.specs.Construct.{Construct, Operand, Fixed, Varying, operand_trees}
use Rattle.stream_constructs.specs.Construct as construct
use Rattle.stream_constructs.specs.Equations.{choice}
use Rattle.stream_constructs.specs.Agree.{AreOperands, Fits, FitsChoice}
use Rattle.stream_constructs.proofs.Operands.{Chooses, by_literal, by_stream, chooses_of}
use Rattle.flat_meaning.proofs.OneKind.{one_kind}

abbrev pub types : List Stream → List ValueType
types parts = map (λ a. a.of) parts

-- ---- operands
-- the types of operands, of which those that vary have these
abbrev operand_types : List Operand → List ValueType → List ValueType
operand_types [] ts = []
operand_types (Fixed s ∷ os) ts = value_type.Scalar (type_of s) ∷ operand_types os ts
operand_types (Varying ∷ os) [] = []
operand_types (Varying ∷ os) (t ∷ ts) = t ∷ operand_types os ts

operands_are : (os : List Operand) (parts : List Stream) (ts : List ValueType) → AreOperands os parts ts → ts ≡ operand_types os (types parts)
operands_are [] [] [] h = refl
operands_are (Fixed s ∷ os) parts (t ∷ ts) h = let rest = operands_are os parts ts h.1 in λ i. h.0 i ∷ rest i
operands_are (Varying ∷ os) (a ∷ parts) (t ∷ ts) h = let rest = operands_are os parts ts h.1 in λ i. h.0 i ∷ rest i
operands_are os parts ts h = absurd h

abbrev first_type : List ValueType → Option ValueType
first_type ts = slice_get ts 0

-- ---- constructs with equations of their own
abbrev pub is_nil : Construct → Bool
is_nil construct.Nil = true
is_nil c = false

-- a construct is of a type where its parts are of these
abbrev IsOfType : Construct → List ValueType → ValueType → Type 0
IsOfType construct.Unit ts of = of ≡ unit_type
IsOfType (construct.Literal s) ts of = of ≡ value_type.Scalar (type_of s)
IsOfType (construct.Empty t) ts of = of ≡ t
IsOfType construct.Time ts of = of ≡ int_type
IsOfType construct.Delay ts of = of ≡ unit_type
IsOfType (construct.Const s) ts of = of ≡ value_type.Scalar (type_of s)
IsOfType (construct.Lift f) ts of = HasKind (map Optional ts) f (Optional of)
IsOfType (construct.Signal f) ts of = HasKind (map Value ts) f (Value of)
IsOfType (construct.Update o os) ts of = first_type (operand_types os ts) ≡ Some of
IsOfType c ts of = first_type ts ≡ Some of

abbrev value_in : ValueKind → ValueType
value_in (Value of) = of
value_in (Optional of) = of

one_is : (c : Construct) (ts : List ValueType) (of at : ValueType) → IsOfType c ts of → IsOfType c ts at → of ≡ at
one_is construct.Unit ts of at g h = g ∙ sym h
one_is (construct.Literal s) ts of at g h = g ∙ sym h
one_is (construct.Empty t) ts of at g h = g ∙ sym h
one_is construct.Time ts of at g h = g ∙ sym h
one_is construct.Delay ts of at g h = g ∙ sym h
one_is (construct.Const s) ts of at g h = g ∙ sym h
one_is (construct.Lift f) ts of at g h = ap value_in (one_kind g h)
one_is (construct.Signal f) ts of at g h = ap value_in (one_kind g h)
one_is c ts of at g h = same_Some of at (sym g ∙ h)

kinds_of : (k : ValueType → ValueKind) (parts : List Stream) → map (λ a. k a.of) parts ≡ map k (types parts)
kinds_of k [] = refl
kinds_of k (a ∷ parts) = ap (λ ks. k a.of ∷ ks) (kinds_of k parts)

fits_is : (c : Construct) (parts : List Stream) (of : ValueType) → is_nil c ≡ false → Fits c parts of → IsOfType c (types parts) of
fits_is construct.Nil parts of other h = absurd (true≢false other)
fits_is construct.Unit [] of other h = h
fits_is (construct.Literal s) [] of other h = h
fits_is (construct.Empty t) [] of other h = h.0
fits_is construct.Time (a ∷ []) of other h = h
fits_is construct.Last (v ∷ r ∷ []) of other h = ap Some (sym h)
fits_is construct.Delay (d ∷ r ∷ x ∷ []) of other h = h.0
fits_is construct.Merge (a ∷ b ∷ []) of other h = ap Some (sym h.0)
fits_is (construct.Const s) (a ∷ []) of other h = h
fits_is construct.Filter (e ∷ c ∷ []) of other h = ap Some (sym h.0)
fits_is (construct.FilterBy b) (e ∷ []) of other h = ap Some (sym h)
fits_is (construct.Lift f) parts of other h = subst (λ ks. HasKind ks f (Optional of)) (kinds_of Optional parts) h.3
fits_is (construct.Signal f) parts of other h = subst (λ ks. HasKind ks f (Value of)) (kinds_of Value parts) h.2
fits_is (construct.Update o os) parts of other h = sym (ap first_type (operands_are os parts (of ∷ h.0) h.1))
fits_is c parts of other h = absurd h

pub one_type : (c : Construct) (parts others : List Stream) (of at : ValueType) → is_nil c ≡ false → types parts ≡ types others → Fits c parts of → Fits c others at → of ≡ at
one_type c parts others of at other same g h =
    one_is c (types others) of at (subst (λ ts. IsOfType c ts of) same (fits_is c parts of other g)) (fits_is c others at other h)

-- ---- choices between sets or maps
pub one_choice : (os : List Operand) (parts others : List Stream) (of at : ValueType) → types parts ≡ types others → FitsChoice os parts of → FitsChoice os others at → of ≡ at
one_choice os parts others of at same g h =
    let is = operands_are os parts (bool_type ∷ of ∷ of ∷ []) g.0 in
    let be = operands_are os others (bool_type ∷ at ∷ at ∷ []) h.0 in
    same_Some of at (ap (λ ts. slice_get ts 1) (is ∙ ap (operand_types os) same ∙ sym be))

-- the same choice as an operation on streams is of the same type
pub choice_type : (os : List Operand) (parts others : List Stream) (of at : ValueType) → types parts ≡ types others → Fits (construct.Signal (choice (operand_trees 0 os))) parts of → FitsChoice os others at → of ≡ at
choice_type os parts others of at same g h =
    let kind = subst (λ ts. IsOfType (construct.Signal (choice (operand_trees 0 os))) ts of) same (fits_is (construct.Signal (choice (operand_trees 0 os))) parts of refl g) in
    chosen (chooses_of os others bool_type at h.1 h.0) kind h.0
  where
    chosen : {os : List Operand} {others : List Stream} → Chooses os others → HasKind (map Value (types others)) (choice (operand_trees 0 os)) (Value of) → AreOperands os others (bool_type ∷ at ∷ at ∷ []) → of ≡ at
    chosen by_literal (typing.HasKind.choice c a b) h = ap value_in (one_kind a (typing.HasKind.argument refl)) ∙ sym h.1.0
    chosen by_stream (typing.HasKind.choice c a b) h = ap value_in (one_kind a (typing.HasKind.argument refl)) ∙ sym h.1.0
