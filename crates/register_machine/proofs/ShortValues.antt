-- Operations make short values of short ones.
use Rattle.std.proofs.Common.{◌≡◌, ℕ, suc, zero, ◌<◌, ◌≤◌, ◌+◌, Bool, true, false, ◌&&◌, ◌||◌, not, List, [], ◌∷◌, ◌++◌, length, Option, Some, None, Result, Ok, Err, refl, sym, ap, subst, ◌∙◌, cond, inl, inr, arith, IsTrue}
use Rattle.std.specs.Prelude.{ℤ, pos, if◌then◌else◌, is_some, is_none, nat_lt, slice_index_or, neg_ℤ, int_lt, int_le, ◌+ℤ◌, ◌-ℤ◌, ◌*ℤ◌, int_div, int_rem}
use Rattle.std.proofs.lemmas.Bool.{cases_Bool, le-ltb, ltb-false}
use Rattle.std.specs.List.{AllByRecursion, list_all, list_any}
use Rattle.std.specs.Option.{option_map, option_or}
use Rattle.std.specs.Ordering.{eq_by_cmp, is_eq}
use Rattle.std.specs.Cmp.{Equal-is}
use Rattle.std.specs.FinSet as set
use Rattle.std.specs.FinMap as finite_map
use Rattle.tsl_value.specs.Aggregate.{empty_of, has_elements, size_of}
use Rattle.tsl_value.specs.Literal.{is_int}
use Rattle.tsl_value.specs.View.{View, Plain, Keyed, Mapped, Listed, Keys, Table, scalar_cmp}
use Rattle.tsl_value.specs.inner.ScalarOrder.{scalar_cmp_total}
use Rattle.tsl_value.proofs.ScalarOrder.{scalar_cmp-IsAntisymmetric}
use Rattle.tsl_value.specs.declared.limits.TheConstants.{MOST_TEXT_BYTES}
use Rattle.tsl_value.specs.declared.scalar.Scalar.{Scalar}
use Rattle.tsl_value.specs.declared.scalar.Scalar.TheVariants as scalar
use Rattle.tsl_value.specs.declared.scalar.ValueType.{ValueType}
use Rattle.tsl_value.specs.declared.scalar.ValueType.TheVariants as value_type
use Rattle.tsl_value.specs.declared.operation.Unary.{Unary}
use Rattle.tsl_value.specs.declared.operation.Unary.TheVariants as unary
use Rattle.tsl_value.specs.declared.operation.Binary.{Binary}
use Rattle.tsl_value.specs.declared.operation.Binary.TheVariants as binary
use Rattle.tsl_value.specs.declared.operation.Update.{Update}
use Rattle.tsl_value.specs.declared.operation.Update.TheVariants as update
use Rattle.lift_func.specs.declared.fault.FaultKind.{FaultKind}
use Rattle.lift_func.specs.declared.fault.FaultKind.TheVariants.{TextTooLong, Overflow}
use Rattle.lift_func.specs.Apply.{Answer, int, bool, text, and_then, remainder, divided, found, of_one, on_ints, on_scalars, on_texts, contained, at_key, chosen, both, of_two, apply}
use Rattle.lift_func.specs.BodyTree.{BodyTree, Literal, Argument, Absent, One, Two, Choice}
use Rattle.lift_func.specs.Update.{updated, all_of, present, update_of, update_answer}
use Rattle.flat_core.specs.declared.equation.Op.{Op}
use Rattle.flat_core.specs.declared.equation.Op.TheVariants as op
use Rattle.flat_core.specs.Complete.{HasShortBody, HasShortTexts, IsShort}
use Rattle.flat_core.specs.Events.{at_once, at_zero, unit, merged, filtered, picked, updating}
use Rattle.register_machine.specs.Short.{IsShortView, IsShortValue, IsShortAnswer}

some_same : {A : Type 0} {a b : A} → Some a ≡ Some b → a ≡ b
some_same e = cc

none_some : {A P : Type 0} {a : A} → None ≡ Some a → P
none_some e = absurd (cc)

tied_is : (x k : Scalar) → eq_by_cmp scalar_cmp x k ≡ true → x ≡ k
tied_is x k tied = scalar_cmp-IsAntisymmetric x k ((Equal-is (scalar_cmp x k)).0 tied)

-- ---- aggregates

no_keys : IsShortView (Keyed set.empty)
no_keys = λ k has. absurd (let none = set.contains-empty scalar_cmp k in cc)

no_entries : IsShortView (Mapped finite_map.empty)
no_entries = λ k x is. none_some (sym (finite_map.get-empty scalar_cmp k) ∙ is)

second : (a b : Bool) → (a && b) ≡ true → b ≡ true
second true b p = p
second false b p = absurd (cc)

key_added : (keys : Keys) (k : Scalar) → IsShort k → IsShortView (Keyed keys) → IsShortView (Keyed (set.insert keys k))
key_added keys k here all = λ x has. elim (cases_Bool (eq_by_cmp scalar_cmp x k)) [
  | inl tied ↦ subst IsShort (sym (tied_is x k tied)) here
  | inr apart ↦ all x (sym (ap (λ b. b || set.contains keys x) apart) ∙ sym (set.contains-insert scalar_cmp_total keys k x) ∙ has)
]

key_removed : (keys : Keys) (k : Scalar) → IsShortView (Keyed keys) → IsShortView (Keyed (set.remove keys k))
key_removed keys k all = λ x has.
    all x (second (not (eq_by_cmp scalar_cmp x k)) (set.contains keys x) (sym (set.contains-remove scalar_cmp_total keys k x) ∙ has))

entry_added : (m : Table) (k v : Scalar) → IsShort k → IsShort v → IsShortView (Mapped m) → IsShortView (Mapped (finite_map.insert m k v))
entry_added m k v key value all = λ q x is.
    let got : cond (eq_by_cmp scalar_cmp q k) (Some v) (finite_map.get m q) ≡ Some x = sym (finite_map.get-insert scalar_cmp_total m k v q) ∙ is in
    elim (cases_Bool (eq_by_cmp scalar_cmp q k)) [
      | inl tied ↦ (
        subst IsShort (sym (tied_is q k tied)) key,
        subst IsShort (some_same (sym (ap (λ b. cond b (Some v) (finite_map.get m q)) tied) ∙ got)) value,
      )
      | inr apart ↦ all q x (sym (ap (λ b. cond b (Some v) (finite_map.get m q)) apart) ∙ got)
    ]

entry_removed : (m : Table) (k : Scalar) → IsShortView (Mapped m) → IsShortView (Mapped (finite_map.remove m k))
entry_removed m k all = λ q x is.
    let got : cond (eq_by_cmp scalar_cmp q k) None (finite_map.get m q) ≡ Some x = sym (finite_map.get-remove scalar_cmp_total m k q) ∙ is in
    elim (cases_Bool (eq_by_cmp scalar_cmp q k)) [
      | inl tied ↦ none_some (sym (ap (λ b. cond b None (finite_map.get m q)) tied) ∙ got)
      | inr apart ↦ all q x (sym (ap (λ b. cond b None (finite_map.get m q)) apart) ∙ got)
    ]

element_added : (xs : List Scalar) (x : Scalar) → IsShort x → AllByRecursion IsShort xs → AllByRecursion IsShort (xs ++ x ∷ [])
element_added [] x here all = (here, tt)
element_added (y ∷ xs) x here all = (all.0, element_added xs x here all.1)

empty_short : (of : ValueType) → IsShortView (empty_of of)
empty_short (value_type.Scalar of) = tt
empty_short (value_type.Set key) = no_keys
empty_short (value_type.Map key of) = no_entries
empty_short (value_type.Queue of) = tt

-- ---- updates

abbrev IsShortUpdate : Result View FaultKind → Type 0
IsShortUpdate (Ok v) = IsShortView v
IsShortUpdate (Err kind) = Unit {0}

updated_short : (u : Update) (v : View) (rest : List View) → IsShortView v → AllByRecursion IsShortView rest → IsShortUpdate (updated u v rest)
updated_short update.SetAdd (Keyed s) (Plain k ∷ []) all short = key_added s k short.0 all
updated_short update.SetRemove (Keyed s) (Plain k ∷ []) all short = key_removed s k all
updated_short update.MapAdd (Mapped m) (Plain k ∷ Plain x ∷ []) all short = entry_added m k x short.0 short.1.0 all
updated_short update.MapRemove (Mapped m) (Plain k ∷ []) all short = entry_removed m k all
updated_short update.QueueAdd (Listed xs) (Plain x ∷ []) all short = element_added xs x short.0 all
updated_short update.QueueTake (Listed []) [] all short = tt
updated_short update.QueueTake (Listed (x ∷ xs)) [] all short = all.1
updated_short u v rest all short = all

abbrev AreShortViews : Option (List View) → Type 0
AreShortViews None = Unit {0}
AreShortViews (Some vs) = AllByRecursion IsShortView vs

joined_short : (v : View) (vs : Option (List View)) → IsShortView v → AreShortViews vs → AreShortViews (option_map (λ ws. v ∷ ws) vs)
joined_short v None here all = tt
joined_short v (Some vs) here all = (here, all)

all_short : (values : List (Option View)) → AllByRecursion IsShortValue values → AreShortViews (all_of values)
all_short [] all = tt
all_short (None ∷ values) all = tt
all_short (Some v ∷ values) all = joined_short v (all_of values) all.0 (all_short values all.1)

present_short : (r : Result View FaultKind) → IsShortUpdate r → IsShortAnswer (present r)
present_short (Ok v) short = short
present_short (Err kind) short = tt

update_of_short : (u : Update) (vs : Option (List View)) → AreShortViews vs → IsShortAnswer (update_of u vs)
update_of_short u None all = tt
update_of_short u (Some []) all = tt
update_of_short u (Some (v ∷ rest)) all = present_short (updated u v rest) (updated_short u v rest all.0 all.1)

updating_short : (u : Update) (values : List (Option View)) → AllByRecursion IsShortValue values → IsShortAnswer (update_answer u values)
updating_short u values all = update_of_short u (all_of values) (all_short values all)

-- ---- bodies

int_short : (z : ℤ) → IsShortAnswer (int z)
int_short z = from (is_int z)
  where
    from : (b : Bool) → IsShortAnswer (if b then Ok (Some (Plain (scalar.Int z))) else Err Overflow)
    from true = tt
    from false = tt

text_short : (bytes : List ℕ) → IsShortAnswer (text bytes)
text_short bytes = from (nat_lt MOST_TEXT_BYTES (length bytes)) refl
  where
    from : (b : Bool) → nat_lt MOST_TEXT_BYTES (length bytes) ≡ b → IsShortAnswer (if b then Err TextTooLong else Ok (Some (Plain (scalar.Text bytes))))
    from true long = tt
    from false short = ltb-false MOST_TEXT_BYTES (length bytes) short

remainder_short : (a b : ℤ) → IsShortAnswer (remainder a b)
remainder_short a b = from (int (int_div a b))
  where
    from : (x : Answer) → IsShortAnswer (and_then x (λ _. int (int_rem a b)))
    from (Ok v) = int_short (int_rem a b)
    from (Err kind) = tt

divided_short : (b : ℤ) (x : Answer) → IsShortAnswer x → IsShortAnswer (divided b x)
divided_short (pos zero) x short = tt
divided_short b x short = short

found_short : (v : Option View) → IsShortValue v → IsShortAnswer (found v)
found_short None short = tt
found_short (Some v) short = short

of_one_short : (o : Unary) (v : Option View) → IsShortValue v → IsShortAnswer (of_one o v)
of_one_short unary.Neg (Some (Plain (scalar.Int a))) short = int_short (neg_ℤ a)
of_one_short unary.Not (Some (Plain (scalar.Bool a))) short = tt
of_one_short unary.Length (Some (Plain (scalar.Text a))) short = tt
of_one_short unary.Size (Some v) short = from (has_elements v)
  where
    from : (b : Bool) → IsShortAnswer (if b then int (pos (size_of v)) else Ok None)
    from true = int_short (pos (size_of v))
    from false = tt
of_one_short unary.Front (Some (Listed (x ∷ xs))) short = short.0
of_one_short unary.Some v short = short
of_one_short unary.GetSome (Some v) short = short
of_one_short o v short = tt

and_then_short : (x : Answer) (next : Option View → Answer) → IsShortAnswer x → ((v : Option View) → IsShortValue v → IsShortAnswer (next v)) → IsShortAnswer (and_then x next)
and_then_short (Ok v) next short on = on v short
and_then_short (Err kind) next short on = tt

both_short : (f : Option View → Option View → Answer) (x y : Answer) → IsShortAnswer x → IsShortAnswer y
    → ((a b : Option View) → IsShortValue a → IsShortValue b → IsShortAnswer (f a b))
    → IsShortAnswer (both f x y)
both_short f x y short_x short_y on =
    and_then_short x (λ a. and_then y (λ b. f a b)) short_x (λ a short_a. and_then_short y (λ b. f a b) short_y (λ b short_b. on a b short_a short_b))

on_ints_short : (f : ℤ → ℤ → Answer) → ((a b : ℤ) → IsShortAnswer (f a b)) → (u v : Option View) → IsShortAnswer (on_ints f u v)
on_ints_short f all (Some (Plain (scalar.Int a))) (Some (Plain (scalar.Int b))) = all a b
on_ints_short f all u v = tt

on_scalars_short : (f : Scalar → Scalar → Answer) → ((a b : Scalar) → IsShortAnswer (f a b)) → (u v : Option View) → IsShortAnswer (on_scalars f u v)
on_scalars_short f all (Some (Plain a)) (Some (Plain b)) = all a b
on_scalars_short f all u v = tt

concat_short : (u v : Option View) → IsShortAnswer (on_texts (λ a b. text (a ++ b)) u v)
concat_short (Some (Plain (scalar.Text a))) (Some (Plain (scalar.Text b))) = text_short (a ++ b)
concat_short u v = tt

contained_short : (u v : Option View) → IsShortAnswer (contained u v)
contained_short (Some (Keyed s)) (Some (Plain k)) = tt
contained_short (Some (Mapped m)) (Some (Plain k)) = tt
contained_short u v = tt

plain_short : (v : Option Scalar) → ((x : Scalar) → v ≡ Some x → IsShort x) → IsShortValue (option_map Plain v)
plain_short None all = tt
plain_short (Some x) all = all x refl

at_key_short : (u v : Option View) → IsShortValue u → IsShortAnswer (at_key u v)
at_key_short (Some (Mapped m)) (Some (Plain k)) all = found_short _ (plain_short (finite_map.get m k) (λ x is. (all k x is).1))
at_key_short u v all = tt

chosen_short : (v : Option View) (x y : Answer) → IsShortAnswer x → IsShortAnswer y → IsShortAnswer (chosen v x y)
chosen_short (Some (Plain (scalar.Bool true))) x y short_x short_y = short_x
chosen_short (Some (Plain (scalar.Bool false))) x y short_x short_y = short_y
chosen_short v x y short_x short_y = tt

of_two_short : (o : Binary) (x y : Answer) → IsShortAnswer x → IsShortAnswer y → IsShortAnswer (of_two o x y)
of_two_short binary.Add x y p q = both_short _ x y p q (λ u v _ _. on_ints_short _ (λ a b. int_short (a +ℤ b)) u v)
of_two_short binary.Sub x y p q = both_short _ x y p q (λ u v _ _. on_ints_short _ (λ a b. int_short (a -ℤ b)) u v)
of_two_short binary.Mul x y p q = both_short _ x y p q (λ u v _ _. on_ints_short _ (λ a b. int_short (a *ℤ b)) u v)
of_two_short binary.Div x y p q = both_short _ x y p q (λ u v _ _. on_ints_short _ (λ a b. divided_short b _ (int_short (int_div a b))) u v)
of_two_short binary.Rem x y p q = both_short _ x y p q (λ u v _ _. on_ints_short _ (λ a b. divided_short b _ (remainder_short a b)) u v)
of_two_short binary.Eq x y p q = both_short _ x y p q (λ u v _ _. on_scalars_short _ (λ a b. tt) u v)
of_two_short binary.Ne x y p q = both_short _ x y p q (λ u v _ _. on_scalars_short _ (λ a b. tt) u v)
of_two_short binary.Lt x y p q = both_short _ x y p q (λ u v _ _. on_ints_short _ (λ a b. tt) u v)
of_two_short binary.Le x y p q = both_short _ x y p q (λ u v _ _. on_ints_short _ (λ a b. tt) u v)
of_two_short binary.Gt x y p q = both_short _ x y p q (λ u v _ _. on_ints_short _ (λ a b. tt) u v)
of_two_short binary.Ge x y p q = both_short _ x y p q (λ u v _ _. on_ints_short _ (λ a b. tt) u v)
of_two_short binary.And x y p q = and_then_short x _ p (λ v _. chosen_short v y (bool false) q tt)
of_two_short binary.Or x y p q = and_then_short x _ p (λ v _. chosen_short v (bool true) y tt q)
of_two_short binary.Contains x y p q = both_short _ x y p q (λ u v _ _. contained_short u v)
of_two_short binary.Get x y p q = both_short _ x y p q (λ u v short _. at_key_short u v short)
of_two_short binary.Concat x y p q = both_short _ x y p q (λ u v _ _. concat_short u v)

argument_short : (values : List (Option View)) → AllByRecursion IsShortValue values → (n : ℕ) → IsShortValue (slice_index_or values n None)
argument_short [] all n = tt
argument_short (v ∷ values) all zero = all.0
argument_short (v ∷ values) all (suc n) = argument_short values all.1 n

apply_short : (tree : BodyTree) (values : List (Option View)) → HasShortTexts tree → AllByRecursion IsShortValue values → IsShortAnswer (apply tree values)
apply_short (Literal s) values short all = short
apply_short (Argument n) values short all = argument_short values all n
apply_short (Absent of) values short all = tt
apply_short (One o a) values short all = and_then_short (apply a values) (of_one o) (apply_short a values short all) (of_one_short o)
apply_short (Two o a b) values short all = of_two_short o (apply a values) (apply b values) (apply_short a values short.0 all) (apply_short b values short.1 all)
apply_short (Choice c a b) values short all =
    and_then_short (apply c values) _ (apply_short c values short.0 all)
    (λ v _. chosen_short v (apply a values) (apply b values) (apply_short a values short.1 all) (apply_short b values short.2 all))

-- ---- operations

at_zero_short : (t : ℕ) (v : View) → IsShortView v → IsShortValue (at_zero t v)
at_zero_short zero v short = short
at_zero_short (suc t) v short = tt

if_short : (b : Bool) (x : Answer) → IsShortAnswer x → IsShortAnswer (if b then x else Ok None)
if_short true x short = short
if_short false x short = tt

any_short : (b : Bool) → IsShortValue (if b then Some unit else None)
any_short true = tt
any_short false = tt

time_short : (t : ℕ) (a : Option View) → IsShortValue (option_map (λ _. Plain (scalar.Int (pos t))) a)
time_short t None = tt
time_short t (Some v) = tt

merged_short : (a b : Option View) → IsShortValue a → IsShortValue b → IsShortValue (merged a b)
merged_short None b p q = q
merged_short (Some v) b p q = p

filtered_short : (e c : Option View) → IsShortValue e → IsShortValue (filtered e c)
filtered_short e (Some (Plain (scalar.Bool true))) p = p
filtered_short e c p = tt

picked_short : (c a b : Option View) → IsShortValue a → IsShortValue b → IsShortValue (picked c a b)
picked_short (Some (Plain (scalar.Bool true))) (Some a) (Some b) p q = p
picked_short (Some (Plain (scalar.Bool false))) (Some a) (Some b) p q = q
picked_short c a b p q = tt

pub at_once_short : (o : Op) (of : ValueType) (values : List (Option View)) (t : ℕ) → HasShortBody o → AllByRecursion IsShortValue values → IsShortAnswer (at_once o of values t)
at_once_short op.Unit of [] t body all = at_zero_short t unit tt
at_once_short op.Empty of [] t body all = at_zero_short t (empty_of of) (empty_short of)
at_once_short (op.Lift tree true) of values t body all = if_short (list_all is_some values) (apply tree values) (apply_short tree values body all)
at_once_short (op.Lift tree false) of values t body all = if_short (list_any is_some values) (apply tree values) (apply_short tree values body all)
at_once_short op.Any of values t body all = any_short (list_any is_some values)
at_once_short op.Time of (a ∷ []) t body all = time_short t a
at_once_short op.Merge of (a ∷ b ∷ []) t body all = merged_short a b all.0 all.1.0
at_once_short op.Filter of (a ∷ c ∷ []) t body all = filtered_short a c all.0
at_once_short op.Pick of (c ∷ a ∷ b ∷ []) t body all = picked_short c a b all.1.0 all.1.1.0
at_once_short op.SetAdd of values t body all = updating_short update.SetAdd values all
at_once_short op.SetRemove of values t body all = updating_short update.SetRemove values all
at_once_short op.MapAdd of values t body all = updating_short update.MapAdd values all
at_once_short op.MapRemove of values t body all = updating_short update.MapRemove values all
at_once_short op.QueueAdd of values t body all = updating_short update.QueueAdd values all
at_once_short op.QueueTake of values t body all = updating_short update.QueueTake values all
at_once_short o of values t body all = tt
