-- The rules that compute give a body just the kind that it has.
use Rattle.std.proofs.Common.{◌≡◌, Bool, true, false, ◌&&◌, List, map, Option, Some, None, refl, ap, sym, subst, ◌∙◌}
use Rattle.std.specs.Prelude.{◌↔◌, IsTrue, slice_get}
use Rattle.std.specs.Option.{option_map}
use Rattle.std.proofs.lemmas.Bool.{and_parts, false≢true}
use Rattle.std.proofs.lemmas.Option.{same_Some, slice_get-map}
use Rattle.tsl_value.specs.Aggregate.{is_aggregate}
use Rattle.tsl_value.specs.View.{type_of}
use Rattle.tsl_value.specs.declared.operation.Unary.{Unary}
use Rattle.tsl_value.specs.declared.operation.Unary.TheVariants as unary
use Rattle.tsl_value.specs.declared.operation.Binary.{Binary}
use Rattle.tsl_value.specs.declared.operation.Binary.TheVariants as binary
use Rattle.tsl_value.specs.declared.scalar.ScalarType.{ScalarType}
use Rattle.tsl_value.specs.declared.scalar.ScalarType.TheVariants as scalar_type
use Rattle.tsl_value.specs.declared.scalar.ValueType.{ValueType}
use Rattle.tsl_value.specs.declared.scalar.ValueType.TheVariants as value_type
use Rattle.lift_func.specs.BodyTree.{BodyTree, Literal, Argument, Absent, One, Two, Choice}
use Rattle.lift_func.specs.Operations.{is_arithmetic, is_order, is_equality, is_logic, is_on_texts, made_of_texts}
use Rattle.lift_func.specs.Typing as typing
use Rattle.lift_func.specs.Typing.{ValueKind, Value, Optional, TypesOne, TypesTwo, HasKind, scalar_of}
use Rattle.lift_func.proofs.TypedUpdates.{both}
use Rattle.flat_core.specs.Typed.{kind_of, int_type, bool_type}
use Rattle.equation_types.specs.Kinds.{value_kind}
use Rattle.equation_types.specs.declared.kind.Kind.{Kind}
use Rattle.equation_types.specs.declared.kind.Kind.TheVariants as kind
use Rattle.equation_types.specs.inner.Rules.{is_type, is_kind, plain, kind_at, where_so, of_one, of_both, of_equals, of_member, of_entry, of_two, of_choice, if_one, if_two, if_three, kind_in}
use Rattle.equation_types.proofs.SameTypes.{type_is, kind_is, kind_itself, kind_passes}

-- ---- kinds of the code and of contracts are the same
abbrev pub as_kind : ValueKind → Kind
as_kind (Value t) = kind.Value t
as_kind (Optional t) = kind.Optional t

pub back : (k : ValueKind) → value_kind (as_kind k) ≡ k
back (Value t) = refl
back (Optional t) = refl

pub at_value : (strict : Bool) (t : ValueType) → value_kind (kind_at strict t) ≡ kind_of strict t
at_value true t = refl
at_value false t = refl

pub at_kind : (strict : Bool) (t : ValueType) → as_kind (kind_of strict t) ≡ kind_at strict t
at_kind true t = refl
at_kind false t = refl

-- where a test holds there is just this kind
so : (b : Bool) (k j : Kind) → where_so b k ≡ Some j → IsTrue b × (k ≡ j)
so true k j is = (refl, same_Some k j is)
so false k j is = absurd (cc)

just : {b : Bool} (k : Kind) → IsTrue b → where_so b k ≡ Some k
just {b} k h = subst (λ x. where_so x k ≡ Some k) (sym h) refl

-- ---- operations of one operand
-- what passes a test of its type
where_type : (o : Unary) (t u : ValueType) (made k : Kind) → TypesOne o (Value u) (value_kind made) → where_so (is_type t u) made ≡ Some k → TypesOne o (Value t) (value_kind k)
where_type o t u made k rule is =
    let found = so (is_type t u) made k is in
    subst (λ x. TypesOne o (Value t) (value_kind x)) found.1 (subst (λ x. TypesOne o (Value x) (value_kind made)) (sym (type_is t u found.0)) rule)

one_from : (o : Unary) (a k : Kind) → of_one o a ≡ Some k → TypesOne o (value_kind a) (value_kind k)
one_from unary.Neg (kind.Value t) k is = where_type unary.Neg t int_type (plain scalar_type.Int) k typing.neg is
one_from unary.Not (kind.Value t) k is = where_type unary.Not t bool_type (plain scalar_type.Bool) k typing.not is
one_from unary.Size (kind.Value t) k is =
    let found = so (is_aggregate t) (plain scalar_type.Int) k is in
    subst (λ x. TypesOne unary.Size (Value t) (value_kind x)) found.1 (typing.size found.0)
one_from unary.Front (kind.Value (value_type.Queue x)) k is =
    subst (λ y. TypesOne unary.Front (Value (value_type.Queue x)) (value_kind y)) (same_Some (plain x) k is) typing.front
one_from unary.Length (kind.Value t) k is =
    where_type unary.Length t (value_type.Scalar scalar_type.Text) (plain scalar_type.Int) k typing.length is
one_from unary.Some (kind.Value t) k is = subst (λ y. TypesOne unary.Some (Value t) (value_kind y)) (same_Some (kind.Optional t) k is) typing.some
one_from unary.IsSome (kind.Optional t) k is =
    subst (λ y. TypesOne unary.IsSome (Optional t) (value_kind y)) (same_Some (plain scalar_type.Bool) k is) typing.is_some
one_from unary.IsNone (kind.Optional t) k is =
    subst (λ y. TypesOne unary.IsNone (Optional t) (value_kind y)) (same_Some (plain scalar_type.Bool) k is) typing.is_none
one_from unary.GetSome (kind.Optional t) k is =
    subst (λ y. TypesOne unary.GetSome (Optional t) (value_kind y)) (same_Some (kind.Value t) k is) typing.get_some
one_from _ _ k is = absurd (cc)

one_to : {o : Unary} {j k : ValueKind} → TypesOne o j k → of_one o (as_kind j) ≡ Some (as_kind k)
one_to typing.TypesOne.neg = refl
one_to typing.TypesOne.not = refl
one_to (typing.TypesOne.size is) = just (plain scalar_type.Int) is
one_to typing.TypesOne.front = refl
one_to typing.TypesOne.length = refl
one_to typing.TypesOne.some = refl
one_to typing.TypesOne.is_some = refl
one_to typing.TypesOne.is_none = refl
one_to typing.TypesOne.get_some = refl

-- ---- operations of two operands
record BothAre (asked made : ScalarType) (a b k : Kind) : Type 0 where
  pub first : plain asked ≡ a
  pub second : plain asked ≡ b
  pub gives : plain made ≡ k

both_are : (asked made : ScalarType) (a b k : Kind) → of_both asked made a b ≡ Some k → BothAre asked made a b k
both_are asked made a b k is =
    let found = so (is_kind a (plain asked) && is_kind b (plain asked)) (plain made) k is in
    let parts = and_parts (is_kind a (plain asked)) (is_kind b (plain asked)) found.0 in
    record { first = sym (kind_is a (plain asked) parts.0); second = sym (kind_is b (plain asked) parts.1); gives = found.1 }

both_from : (o : Binary) (asked made : ScalarType) (a b k : Kind) → TypesTwo o (typing.plain asked) (typing.plain asked) (typing.plain made) → of_both asked made a b ≡ Some k → TypesTwo o (value_kind a) (value_kind b) (value_kind k)
both_from o asked made a b k rule is =
    let are = both_are asked made a b k is in
    subst (λ x. TypesTwo o (value_kind a) (value_kind b) (value_kind x)) are.gives
    (subst (λ x. TypesTwo o (value_kind a) (value_kind x) (typing.plain made)) are.second
    (subst (λ x. TypesTwo o (value_kind x) (typing.plain asked) (typing.plain made)) are.first rule))

both_to : (asked made : ScalarType) → of_both asked made (plain asked) (plain asked) ≡ Some (plain made)
both_to asked made = just (plain made) (both (kind_itself (plain asked)) (kind_itself (plain asked)))

-- a second operand that passes its test
second_from : (o : Binary) (i : ValueKind) (s : ScalarType) (made b k : Kind) → TypesTwo o i (typing.plain s) (value_kind made) → where_so (is_kind b (plain s)) made ≡ Some k → TypesTwo o i (value_kind b) (value_kind k)
second_from o i s made b k rule is =
    let found = so (is_kind b (plain s)) made k is in
    subst (λ x. TypesTwo o i (value_kind b) (value_kind x)) found.1
    (subst (λ x. TypesTwo o i (value_kind x) (value_kind made)) (sym (kind_is b (plain s) found.0)) rule)

equals_from : (o : Binary) (a b k : Kind) → is_equality o ≡ true → of_equals a b ≡ Some k → TypesTwo o (value_kind a) (value_kind b) (value_kind k)
equals_from o (kind.Value (value_type.Scalar t)) b k rule is =
    second_from o (typing.plain t) t (plain scalar_type.Bool) b k (typing.equality {o = o} {t = t} rule) is
equals_from o _ b k rule is = absurd (cc)

member_from : (a b k : Kind) → of_member a b ≡ Some k → TypesTwo binary.Contains (value_kind a) (value_kind b) (value_kind k)
member_from (kind.Value (value_type.Set key)) b k is =
    second_from binary.Contains (Value (value_type.Set key)) (scalar_of key) (plain scalar_type.Bool) b k (typing.in_set refl) is
member_from (kind.Value (value_type.Map key x)) b k is =
    second_from binary.Contains (Value (value_type.Map key x)) (scalar_of key) (plain scalar_type.Bool) b k (typing.in_map refl) is
member_from _ b k is = absurd (cc)

entry_from : (a b k : Kind) → of_entry a b ≡ Some k → TypesTwo binary.Get (value_kind a) (value_kind b) (value_kind k)
entry_from (kind.Value (value_type.Map key x)) b k is =
    second_from binary.Get (Value (value_type.Map key x)) (scalar_of key) (plain x) b k (typing.get refl) is
entry_from _ b k is = absurd (cc)

two_from : (o : Binary) (a b k : Kind) → of_two o a b ≡ Some k → TypesTwo o (value_kind a) (value_kind b) (value_kind k)
two_from binary.Add a b k is = both_from binary.Add scalar_type.Int scalar_type.Int a b k (typing.arithmetic refl) is
two_from binary.Sub a b k is = both_from binary.Sub scalar_type.Int scalar_type.Int a b k (typing.arithmetic refl) is
two_from binary.Mul a b k is = both_from binary.Mul scalar_type.Int scalar_type.Int a b k (typing.arithmetic refl) is
two_from binary.Div a b k is = both_from binary.Div scalar_type.Int scalar_type.Int a b k (typing.arithmetic refl) is
two_from binary.Rem a b k is = both_from binary.Rem scalar_type.Int scalar_type.Int a b k (typing.arithmetic refl) is
two_from binary.Eq a b k is = equals_from binary.Eq a b k refl is
two_from binary.Ne a b k is = equals_from binary.Ne a b k refl is
two_from binary.Lt a b k is = both_from binary.Lt scalar_type.Int scalar_type.Bool a b k (typing.order refl) is
two_from binary.Le a b k is = both_from binary.Le scalar_type.Int scalar_type.Bool a b k (typing.order refl) is
two_from binary.Gt a b k is = both_from binary.Gt scalar_type.Int scalar_type.Bool a b k (typing.order refl) is
two_from binary.Ge a b k is = both_from binary.Ge scalar_type.Int scalar_type.Bool a b k (typing.order refl) is
two_from binary.And a b k is = both_from binary.And scalar_type.Bool scalar_type.Bool a b k (typing.logic refl) is
two_from binary.Or a b k is = both_from binary.Or scalar_type.Bool scalar_type.Bool a b k (typing.logic refl) is
two_from binary.Contains a b k is = member_from a b k is
two_from binary.Get a b k is = entry_from a b k is
two_from binary.Concat a b k is = both_from binary.Concat scalar_type.Text scalar_type.Text a b k (typing.on_texts refl) is

arithmetic_to : (o : Binary) → is_arithmetic o ≡ true → of_two o (plain scalar_type.Int) (plain scalar_type.Int) ≡ Some (plain scalar_type.Int)
arithmetic_to binary.Add h = refl
arithmetic_to binary.Sub h = refl
arithmetic_to binary.Mul h = refl
arithmetic_to binary.Div h = refl
arithmetic_to binary.Rem h = refl
arithmetic_to o h = absurd (false≢true h)

order_to : (o : Binary) → is_order o ≡ true → of_two o (plain scalar_type.Int) (plain scalar_type.Int) ≡ Some (plain scalar_type.Bool)
order_to binary.Lt h = refl
order_to binary.Le h = refl
order_to binary.Gt h = refl
order_to binary.Ge h = refl
order_to o h = absurd (false≢true h)

equality_to : (o : Binary) (t : ScalarType) → is_equality o ≡ true → of_two o (plain t) (plain t) ≡ Some (plain scalar_type.Bool)
equality_to binary.Eq t h = just (plain scalar_type.Bool) (kind_itself (plain t))
equality_to binary.Ne t h = just (plain scalar_type.Bool) (kind_itself (plain t))
equality_to o t h = absurd (false≢true h)

logic_to : (o : Binary) → is_logic o ≡ true → of_two o (plain scalar_type.Bool) (plain scalar_type.Bool) ≡ Some (plain scalar_type.Bool)
logic_to binary.And h = refl
logic_to binary.Or h = refl
logic_to o h = absurd (false≢true h)

texts_to : (o : Binary) → is_on_texts o ≡ true → of_two o (plain scalar_type.Text) (plain scalar_type.Text) ≡ Some (plain (made_of_texts o))
texts_to binary.Concat h = refl
texts_to o h = absurd (false≢true h)

-- a key of its type passes
key_to : (key s : ScalarType) (made : Kind) → s ≡ key → where_so (is_kind (plain s) (plain key)) made ≡ Some made
key_to key s made is = just made (kind_passes (plain s) (plain key) (ap plain is))

two_to : {o : Binary} {i j k : ValueKind} → TypesTwo o i j k → of_two o (as_kind i) (as_kind j) ≡ Some (as_kind k)
two_to {o} (typing.TypesTwo.arithmetic is) = arithmetic_to o is
two_to {o} (typing.TypesTwo.order is) = order_to o is
two_to {o} (typing.TypesTwo.equality {t = t} is) = equality_to o t is
two_to {o} (typing.TypesTwo.logic is) = logic_to o is
two_to {o} (typing.TypesTwo.on_texts is) = texts_to o is
two_to (typing.TypesTwo.in_set {k = key} {t = t} is) = key_to (scalar_of key) t (plain scalar_type.Bool) is
two_to (typing.TypesTwo.in_map {k = key} {t = t} is) = key_to (scalar_of key) t (plain scalar_type.Bool) is
two_to (typing.TypesTwo.get {k = key} {x = x} {t = t} is) = key_to (scalar_of key) t (plain x) is

-- ---- bodies
module _ (types : List ValueType) (strict : Bool) where
  abbrev pub kinds : List ValueKind
  kinds = map (kind_of strict) types

  abbrev pub Has : BodyTree → Kind → Type 0
  Has t k = HasKind kinds t (value_kind k)

  -- an argument
  argument_is : (x : Option ValueType) (k : Kind) → option_map (kind_at strict) x ≡ Some k → option_map (kind_of strict) x ≡ Some (value_kind k)
  argument_is None k is = absurd (cc)
  argument_is (Some t) k is = ap Some (sym (at_value strict t) ∙ ap value_kind (same_Some (kind_at strict t) k is))

  argument_has : (x : Option ValueType) (k : ValueKind) → option_map (kind_of strict) x ≡ Some k → option_map (kind_at strict) x ≡ Some (as_kind k)
  argument_has None k is = absurd (cc)
  argument_has (Some t) k is = ap Some (sym (at_kind strict t) ∙ ap as_kind (same_Some (kind_of strict t) k is))

  -- what each part has, the whole has by its rule
  from_one : (o : Unary) (a : BodyTree) (x : Option Kind) (k : Kind) → ((j : Kind) → x ≡ Some j → Has a j) → if_one o x ≡ Some k → Has (One o a) k
  from_one o a None k first is = absurd (cc)
  from_one o a (Some j) k first is = typing.HasKind.one (first j refl) (one_from o j k is)

  from_two : (o : Binary) (a b : BodyTree) (x y : Option Kind) (k : Kind) → ((j : Kind) → x ≡ Some j → Has a j) → ((j : Kind) → y ≡ Some j → Has b j) → if_two o x y ≡ Some k → Has (Two o a b) k
  from_two o a b None y k first second is = absurd (cc)
  from_two o a b (Some i) None k first second is = absurd (cc)
  from_two o a b (Some i) (Some j) k first second is = typing.HasKind.two (first i refl) (second j refl) (two_from o i j k is)

  choice_from : (c a b : BodyTree) (h i j k : Kind) → Has c h → Has a i → Has b j → of_choice h i j ≡ Some k → Has (Choice c a b) k
  choice_from c a b h i j k condition first second is =
      let found = so (is_kind h (plain scalar_type.Bool) && is_kind j i) i k is in
      let parts = and_parts (is_kind h (plain scalar_type.Bool)) (is_kind j i) found.0 in
      subst (Has (Choice c a b)) found.1
      (typing.HasKind.choice (subst (Has c) (kind_is h (plain scalar_type.Bool) parts.0) condition) first (subst (Has b) (kind_is j i parts.1) second))

  from_choice : (c a b : BodyTree) (x y z : Option Kind) (k : Kind) → ((j : Kind) → x ≡ Some j → Has c j) → ((j : Kind) → y ≡ Some j → Has a j) → ((j : Kind) → z ≡ Some j → Has b j) → if_three x y z ≡ Some k → Has (Choice c a b) k
  from_choice c a b None y z k condition first second is = absurd (cc)
  from_choice c a b (Some h) None z k condition first second is = absurd (cc)
  from_choice c a b (Some h) (Some i) None k condition first second is = absurd (cc)
  from_choice c a b (Some h) (Some i) (Some j) k condition first second is =
      choice_from c a b h i j k (condition h refl) (first i refl) (second j refl) is

  pub kind_from : (t : BodyTree) (k : Kind) → kind_in types strict t ≡ Some k → Has t k
  kind_from (Literal s) k is = subst (Has (Literal s)) (same_Some (plain (type_of s)) k is) (typing.HasKind.literal refl)
  kind_from (Argument n) k is =
      typing.HasKind.argument (slice_get-map (kind_of strict) types n ∙ argument_is (slice_get types n) k is)
  kind_from (Absent t) k is = subst (Has (Absent t)) (same_Some (kind.Optional t) k is) typing.HasKind.absent
  kind_from (One o a) k is = from_one o a (kind_in types strict a) k (kind_from a) is
  kind_from (Two o a b) k is = from_two o a b (kind_in types strict a) (kind_in types strict b) k (kind_from a) (kind_from b) is
  kind_from (Choice c a b) k is =
      from_choice c a b (kind_in types strict c) (kind_in types strict a) (kind_in types strict b) k (kind_from c) (kind_from a) (kind_from b) is

  choice_to : (i : Kind) → of_choice (plain scalar_type.Bool) i i ≡ Some i
  choice_to i = just i (kind_itself i)

  pub kind_to : {t : BodyTree} {k : ValueKind} → HasKind kinds t k → kind_in types strict t ≡ Some (as_kind k)
  kind_to (typing.HasKind.literal {s = s} {t = t} is) = ap (λ x. Some (plain x)) (sym is)
  kind_to (typing.HasKind.argument {n = n} {k = k} is) =
      argument_has (slice_get types n) k (sym (slice_get-map (kind_of strict) types n) ∙ is)
  kind_to typing.HasKind.absent = refl
  kind_to (typing.HasKind.one {o = o} {a = a} {j = j} {k = k} part rule) = ap (if_one o) (kind_to part) ∙ one_to rule
  kind_to (typing.HasKind.two {o = o} {a = a} {b = b} {i = i} {j = j} {k = k} first second rule) =
      ap (λ x. if_two o x (kind_in types strict b)) (kind_to first) ∙ ap (if_two o (Some (as_kind i))) (kind_to second) ∙ two_to rule
  kind_to (typing.HasKind.choice {c = c} {a = a} {b = b} {k = k} condition first second) =
      ap (λ x. if_three x (kind_in types strict a) (kind_in types strict b)) (kind_to condition) ∙ ap (λ x. if_three (Some (plain scalar_type.Bool)) x (kind_in types strict b)) (kind_to first) ∙ ap (if_three (Some (plain scalar_type.Bool)) (Some (as_kind k))) (kind_to second) ∙ choice_to (as_kind k)

  found_kind : (t : BodyTree) (x : Option Kind) (k : ValueKind) → ((j : Kind) → x ≡ Some j → Has t j) → option_map value_kind x ≡ Some k → HasKind kinds t k
  found_kind t None k has is = absurd (cc)
  found_kind t (Some j) k has is = subst (HasKind kinds t) (same_Some (value_kind j) k is) (has j refl)

  pub just_kind : (t : BodyTree) (r : Option Kind) → r ≡ kind_in types strict t → (k : ValueKind) → (option_map value_kind r ≡ Some k) ↔ HasKind kinds t k
  just_kind t r is k = (
    (λ found. found_kind t r k (λ j so. kind_from t j (sym is ∙ so)) found),
    (λ has. ap (option_map value_kind) (is ∙ kind_to has) ∙ ap Some (back k)),
  )
