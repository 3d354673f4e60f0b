-- A tree has one kind at most.
use Rattle.std.proofs.Common.{◌≡◌, true, List, Option, Some, refl, ap, sym, ◌∙◌}
use Rattle.std.specs.Prelude.{if◌then◌else◌}
use Rattle.std.proofs.lemmas.Bool.{false≢true}
use Rattle.std.proofs.lemmas.Option.{same_Some}
use Rattle.tsl_value.specs.declared.scalar.ScalarType.TheVariants as scalar_type
use Rattle.tsl_value.specs.declared.scalar.ValueType.TheVariants as value_type
use Rattle.tsl_value.specs.declared.operation.Unary.{Unary}
use Rattle.tsl_value.specs.declared.operation.Unary.TheVariants as unary
use Rattle.tsl_value.specs.declared.operation.Binary.{Binary}
use Rattle.tsl_value.specs.declared.operation.Binary.TheVariants as binary
use Rattle.lift_func.specs.BodyTree.{BodyTree}
use Rattle.lift_func.specs.Typing.{ValueKind, Value, Optional, plain, TypesOne, TypesTwo, HasKind}
use Rattle.lift_func.specs.Operations.{is_arithmetic, is_order, is_equality, is_logic, is_on_texts, made_of_texts}
use Rattle.lift_func.specs.Typing as typing

-- the kind that an operation gives, by that of its first operand
abbrev result_of_one : Unary → ValueKind → Option ValueKind
result_of_one unary.Not k = Some (plain scalar_type.Bool)
result_of_one unary.IsSome k = Some (plain scalar_type.Bool)
result_of_one unary.IsNone k = Some (plain scalar_type.Bool)
result_of_one unary.Some (Value t) = Some (Optional t)
result_of_one unary.GetSome (Optional t) = Some (Value t)
result_of_one unary.Front (Value (value_type.Queue x)) = Some (plain x)
result_of_one o k = Some (plain scalar_type.Int)

one_result : {o : Unary} {j k : ValueKind} → TypesOne o j k → result_of_one o j ≡ Some k
one_result typing.TypesOne.neg = refl
one_result typing.TypesOne.not = refl
one_result (typing.TypesOne.size is) = refl
one_result typing.TypesOne.front = refl
one_result typing.TypesOne.length = refl
one_result typing.TypesOne.some = refl
one_result typing.TypesOne.is_some = refl
one_result typing.TypesOne.is_none = refl
one_result typing.TypesOne.get_some = refl

abbrev result_of_other : Binary → ValueKind → Option ValueKind
result_of_other binary.Get (Value (value_type.Map k x)) = Some (plain x)
result_of_other o k = if is_arithmetic o then Some (plain scalar_type.Int) else Some (plain scalar_type.Bool)

abbrev result_of_two : Binary → ValueKind → Option ValueKind
result_of_two o k = if is_on_texts o then Some (plain (made_of_texts o)) else result_of_other o k

texts_result : (o : Binary) (k : ValueKind) → is_on_texts o ≡ true → result_of_two o k ≡ Some (plain (made_of_texts o))
texts_result o k h = ap (λ b. if b then Some (plain (made_of_texts o)) else result_of_other o k) h

arithmetic_result : (o : Binary) (k : ValueKind) → is_arithmetic o ≡ true → result_of_two o k ≡ Some (plain scalar_type.Int)
arithmetic_result binary.Add k h = refl
arithmetic_result binary.Sub k h = refl
arithmetic_result binary.Mul k h = refl
arithmetic_result binary.Div k h = refl
arithmetic_result binary.Rem k h = refl
arithmetic_result o k h = absurd (false≢true h)

order_result : (o : Binary) (k : ValueKind) → is_order o ≡ true → result_of_two o k ≡ Some (plain scalar_type.Bool)
order_result binary.Lt k h = refl
order_result binary.Le k h = refl
order_result binary.Gt k h = refl
order_result binary.Ge k h = refl
order_result o k h = absurd (false≢true h)

equality_result : (o : Binary) (k : ValueKind) → is_equality o ≡ true → result_of_two o k ≡ Some (plain scalar_type.Bool)
equality_result binary.Eq k h = refl
equality_result binary.Ne k h = refl
equality_result o k h = absurd (false≢true h)

logic_result : (o : Binary) (k : ValueKind) → is_logic o ≡ true → result_of_two o k ≡ Some (plain scalar_type.Bool)
logic_result binary.And k h = refl
logic_result binary.Or k h = refl
logic_result o k h = absurd (false≢true h)

two_result : {o : Binary} {i j k : ValueKind} → TypesTwo o i j k → result_of_two o i ≡ Some k
two_result {o} {i} (typing.TypesTwo.arithmetic is) = arithmetic_result o i is
two_result {o} {i} (typing.TypesTwo.order is) = order_result o i is
two_result {o} {i} (typing.TypesTwo.equality is) = equality_result o i is
two_result {o} {i} (typing.TypesTwo.logic is) = logic_result o i is
two_result (typing.TypesTwo.in_set is) = refl
two_result (typing.TypesTwo.in_map is) = refl
two_result (typing.TypesTwo.get is) = refl
two_result {o} {i} (typing.TypesTwo.on_texts is) = texts_result o i is

pub one_kind : {args : List ValueKind} {f : BodyTree} {j k : ValueKind} → HasKind args f j → HasKind args f k → j ≡ k
one_kind (typing.HasKind.literal is) (typing.HasKind.literal be) = ap plain (is ∙ sym be)
one_kind {j = j} {k = k} (typing.HasKind.argument is) (typing.HasKind.argument be) = same_Some j k (sym is ∙ be)
one_kind typing.HasKind.absent typing.HasKind.absent = refl
one_kind {j = j} {k = k} (typing.HasKind.one {o = o} of is) (typing.HasKind.one at be) = same_Some j k (sym (one_result is) ∙ ap (result_of_one o) (one_kind of at) ∙ one_result be)
one_kind {j = j} {k = k} (typing.HasKind.two {o = o} of _ is) (typing.HasKind.two at _ be) = same_Some j k (sym (two_result is) ∙ ap (result_of_two o) (one_kind of at) ∙ two_result be)
one_kind (typing.HasKind.choice c of _) (typing.HasKind.choice d at _) = one_kind of at
