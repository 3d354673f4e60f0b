-- A well typed body at fitting arguments has an answer of its kind.
use Rattle.std.proofs.Common.{◌≡◌, ℕ, zero, suc, Bool, true, false, cond, ◌&&◌, List, [], ◌∷◌, ◌++◌, length, ℤ, pos, neg_ℤ, ◌+ℤ◌, ◌-ℤ◌, ◌*ℤ◌, Option, Some, None, Ok, Err, refl, sym, subst, ◌∙◌}
use Rattle.std.specs.Prelude.{IsTrue, IsFalse, if◌then◌else◌, int_div, int_rem, int_le, int_lt, not, nat_lt, slice_get, slice_index_or}
use Rattle.std.specs.List.{list_all}
use Rattle.std.specs.Option.{option_map}
use Rattle.std.specs.Ordering.{eq_by_cmp, is_eq}
use Rattle.std.specs.FinMap as map
use Rattle.std.proofs.lemmas.Bool.{and_parts, false≢true, true≢false}
use Rattle.tsl_value.specs.Literal.{is_int}
use Rattle.tsl_value.specs.Aggregate.{size_of}
use Rattle.tsl_value.proofs.Aggregates.{elements_of}
use Rattle.tsl_value.specs.View.{View, Plain, Keyed, Mapped, Listed, Keys, Table, is_of, is_of_key, is_of_scalar, scalar_cmp, type_of}
use Rattle.tsl_value.specs.declared.scalar.KeyType.{KeyType}
use Rattle.tsl_value.specs.declared.scalar.Scalar.{Scalar}
use Rattle.tsl_value.specs.declared.scalar.Scalar.TheVariants as scalar
use Rattle.tsl_value.specs.declared.scalar.ScalarType.{ScalarType}
use Rattle.tsl_value.specs.declared.scalar.ScalarType.TheVariants as scalar_type
use Rattle.tsl_value.specs.declared.scalar.ValueType.TheVariants as value_type
use Rattle.tsl_value.specs.declared.limits.TheConstants.{MOST_TEXT_BYTES}
use Rattle.lift_func.specs.declared.fault.FaultKind.TheVariants.{Overflow, TextTooLong}
use Rattle.tsl_value.specs.declared.operation.Unary.{Unary}
use Rattle.tsl_value.specs.declared.operation.Unary.TheVariants as unary
use Rattle.tsl_value.specs.declared.operation.Binary.{Binary}
use Rattle.tsl_value.specs.declared.operation.Binary.TheVariants as binary
use Rattle.lift_func.specs.BodyTree.{BodyTree}
use Rattle.lift_func.specs.Apply.{Answer, int, bool, text, and_then, remainder, divided, found, of_one, on_ints, on_scalars, on_texts, contained, at_key, chosen, both, of_two, apply}
use Rattle.lift_func.specs.Typing as typing
use Rattle.lift_func.specs.Operations.{is_arithmetic, is_order, is_equality, is_logic, is_on_texts, made_of_texts, can_fault_one, can_fault_two}
use Rattle.lift_func.specs.Typing.{ValueKind, Value, Optional, plain, TypesOne, TypesTwo, HasKind, fits, FitsAnswer, AllFit}

abbrev int_kind : ValueKind
int_kind = plain scalar_type.Int

abbrev bool_kind : ValueKind
bool_kind = plain scalar_type.Bool

abbrev text_kind : ValueKind
text_kind = plain scalar_type.Text

-- what fits a kind
module _ (P : Option View → Type 0) where
  int_form : ((z : ℤ) → P (Some (Plain (scalar.Int z)))) → (v : Option View) → IsTrue (fits int_kind v) → P v
  int_form h (Some (Plain (scalar.Int z))) fit = h z
  int_form h _ fit = absurd (false≢true fit)

  bool_form : ((b : Bool) → P (Some (Plain (scalar.Bool b)))) → (v : Option View) → IsTrue (fits bool_kind v) → P v
  bool_form h (Some (Plain (scalar.Bool b))) fit = h b
  bool_form h _ fit = absurd (false≢true fit)

  text_form : ((s : List ℕ) → P (Some (Plain (scalar.Text s)))) → (v : Option View) → IsTrue (fits text_kind v) → P v
  text_form h (Some (Plain (scalar.Text s))) fit = h s
  text_form h _ fit = absurd (false≢true fit)

  pub scalar_form : (t : ScalarType) → ((s : Scalar) → IsTrue (is_of_scalar t s) → P (Some (Plain s))) → (v : Option View) → IsTrue (fits (plain t) v) → P v
  scalar_form t h (Some (Plain s)) fit = h s fit
  scalar_form t h _ fit = absurd (false≢true fit)

  pub set_form : (k : KeyType) → ((s : Keys) → IsTrue (is_of (value_type.Set k) (Keyed s)) → P (Some (Keyed s))) → (v : Option View) → IsTrue (fits (Value (value_type.Set k)) v) → P v
  set_form k h (Some (Keyed s)) fit = h s fit
  set_form k h _ fit = absurd (false≢true fit)

  pub map_form : (k : KeyType) (x : ScalarType) → ((m : Table) → IsTrue (is_of (value_type.Map k x) (Mapped m)) → P (Some (Mapped m))) → (v : Option View) → IsTrue (fits (Value (value_type.Map k x)) v) → P v
  map_form k x h (Some (Mapped m)) fit = h m fit
  map_form k x h _ fit = absurd (false≢true fit)

  pub queue_form : (x : ScalarType) → ((xs : List Scalar) → IsTrue (is_of (value_type.Queue x) (Listed xs)) → P (Some (Listed xs))) → (v : Option View) → IsTrue (fits (Value (value_type.Queue x)) v) → P v
  queue_form x h (Some (Listed xs)) fit = h xs fit
  queue_form x h _ fit = absurd (false≢true fit)

-- answers of a kind
int_fits : (z : ℤ) → FitsAnswer int_kind (int z)
int_fits z =
    elim (is_int z) as (λ b. FitsAnswer int_kind (if b then Ok (Some (Plain (scalar.Int z))) else Err Overflow)) [ true ↦ refl | false ↦ tt ]

text_fits : (s : List ℕ) → FitsAnswer text_kind (text s)
text_fits s =
    elim (nat_lt MOST_TEXT_BYTES (length s)) as (λ b. FitsAnswer text_kind (if b then Err TextTooLong else Ok (Some (Plain (scalar.Text s))))) [ true ↦ tt | false ↦ refl ]

then_fits : (f : Option View → Answer) (j k : ValueKind) → ((v : Option View) → IsTrue (fits j v) → FitsAnswer k (f v)) → (x : Answer) → FitsAnswer j x → FitsAnswer k (and_then x f)
then_fits f j k h (Ok v) fit = h v fit
then_fits f j k h (Err kind) fit = tt

divided_fits : (b : ℤ) (answer : Answer) → FitsAnswer int_kind answer → FitsAnswer int_kind (divided b answer)
divided_fits (pos zero) answer h = tt
divided_fits b answer h = h

remainder_fits : (a b : ℤ) → FitsAnswer int_kind (remainder a b)
remainder_fits a b = then_fits (λ _. int (int_rem a b)) int_kind int_kind (λ v fit. int_fits (int_rem a b)) (int (int_div a b)) (int_fits (int_div a b))

front_fits : (x : ScalarType) (xs : List Scalar) → IsTrue (is_of (value_type.Queue x) (Listed xs)) → FitsAnswer (plain x) (of_one unary.Front (Some (Listed xs)))
front_fits x [] all = tt
front_fits x (y ∷ xs) all = (and_parts (is_of_scalar x y) (list_all (is_of_scalar x) xs) all).0

one_fits : {o : Unary} {j k : ValueKind} → TypesOne o j k → (v : Option View) → IsTrue (fits j v) → FitsAnswer k (of_one o v)
one_fits typing.neg v fit = int_form (λ v. FitsAnswer int_kind (of_one unary.Neg v)) (λ z. int_fits (neg_ℤ z)) v fit
one_fits typing.not v fit = bool_form (λ v. FitsAnswer bool_kind (of_one unary.Not v)) (λ b. refl) v fit
one_fits (typing.size {t = t} is) (Some v) fit = subst (λ b. FitsAnswer int_kind (if b then int (pos (size_of v)) else Ok None)) (sym (elements_of t v fit ∙ is)) (int_fits (pos (size_of v)))
one_fits (typing.size is) None fit = absurd (false≢true fit)
one_fits (typing.front {x = x}) v fit = queue_form (λ v. FitsAnswer (plain x) (of_one unary.Front v)) x (front_fits x) v fit
one_fits typing.length v fit = text_form (λ v. FitsAnswer int_kind (of_one unary.Length v)) (λ s. refl) v fit
one_fits typing.some (Some v) fit = fit
one_fits typing.some None fit = absurd (false≢true fit)
one_fits typing.is_some v fit = refl
one_fits typing.is_none v fit = refl
one_fits typing.get_some (Some v) fit = fit
one_fits typing.get_some None fit = tt

both_fits : (f : Option View → Option View → Answer) (i j k : ValueKind) → ((a b : Option View) → IsTrue (fits i a) → IsTrue (fits j b) → FitsAnswer k (f a b)) → (x y : Answer) → FitsAnswer i x → FitsAnswer j y → FitsAnswer k (both f x y)
both_fits f i j k h (Ok a) (Ok b) p q = h a b p q
both_fits f i j k h (Ok a) (Err kind) p q = tt
both_fits f i j k h (Err kind) y p q = tt

on_ints_fit : (f : ℤ → ℤ → Answer) (k : ValueKind) → ((a b : ℤ) → FitsAnswer k (f a b)) → (x y : Answer) → FitsAnswer int_kind x → FitsAnswer int_kind y → FitsAnswer k (both (on_ints f) x y)
on_ints_fit f k h x y p q =
    both_fits (on_ints f) int_kind int_kind k
    (λ a b p q. int_form (λ a. FitsAnswer k (on_ints f a b)) (λ m. int_form (λ b. FitsAnswer k (on_ints f (Some (Plain (scalar.Int m))) b)) (λ n. h m n) b q) a p)
    x y p q

on_scalars_fit : (f : Scalar → Scalar → Answer) (t : ScalarType) (k : ValueKind) → ((a b : Scalar) → FitsAnswer k (f a b)) → (x y : Answer) → FitsAnswer (plain t) x → FitsAnswer (plain t) y → FitsAnswer k (both (on_scalars f) x y)
on_scalars_fit f t k h x y p q =
    both_fits (on_scalars f) (plain t) (plain t) k
    (λ a b p q. scalar_form (λ a. FitsAnswer k (on_scalars f a b)) t (λ m is. scalar_form (λ b. FitsAnswer k (on_scalars f (Some (Plain m)) b)) t (λ n is. h m n) b q) a p)
    x y p q

arithmetic_fits : (o : Binary) → is_arithmetic o ≡ true → (x y : Answer) → FitsAnswer int_kind x → FitsAnswer int_kind y → FitsAnswer int_kind (of_two o x y)
arithmetic_fits binary.Add e x y p q = on_ints_fit (λ a b. int (a +ℤ b)) int_kind (λ a b. int_fits (a +ℤ b)) x y p q
arithmetic_fits binary.Sub e x y p q = on_ints_fit (λ a b. int (a -ℤ b)) int_kind (λ a b. int_fits (a -ℤ b)) x y p q
arithmetic_fits binary.Mul e x y p q = on_ints_fit (λ a b. int (a *ℤ b)) int_kind (λ a b. int_fits (a *ℤ b)) x y p q
arithmetic_fits binary.Div e x y p q =
    on_ints_fit (λ a b. divided b (int (int_div a b))) int_kind (λ a b. divided_fits b (int (int_div a b)) (int_fits (int_div a b))) x y p q
arithmetic_fits binary.Rem e x y p q = on_ints_fit (λ a b. divided b (remainder a b)) int_kind (λ a b. divided_fits b (remainder a b) (remainder_fits a b)) x y p q
arithmetic_fits _ e x y p q = absurd (false≢true e)

order_fits : (o : Binary) → is_order o ≡ true → (x y : Answer) → FitsAnswer int_kind x → FitsAnswer int_kind y → FitsAnswer bool_kind (of_two o x y)
order_fits binary.Lt e x y p q = on_ints_fit (λ a b. bool (int_lt a b)) bool_kind (λ a b. refl) x y p q
order_fits binary.Le e x y p q = on_ints_fit (λ a b. bool (int_le a b)) bool_kind (λ a b. refl) x y p q
order_fits binary.Gt e x y p q = on_ints_fit (λ a b. bool (int_lt b a)) bool_kind (λ a b. refl) x y p q
order_fits binary.Ge e x y p q = on_ints_fit (λ a b. bool (int_le b a)) bool_kind (λ a b. refl) x y p q
order_fits _ e x y p q = absurd (false≢true e)

equality_fits : (o : Binary) (t : ScalarType) → is_equality o ≡ true → (x y : Answer) → FitsAnswer (plain t) x → FitsAnswer (plain t) y → FitsAnswer bool_kind (of_two o x y)
equality_fits binary.Eq t e x y p q = on_scalars_fit (λ a b. bool (is_eq (scalar_cmp a b))) t bool_kind (λ a b. refl) x y p q
equality_fits binary.Ne t e x y p q = on_scalars_fit (λ a b. bool (not (is_eq (scalar_cmp a b)))) t bool_kind (λ a b. refl) x y p q
equality_fits _ t e x y p q = absurd (false≢true e)

chosen_fits : (k : ValueKind) (y z : Answer) → FitsAnswer k y → FitsAnswer k z → (v : Option View) → IsTrue (fits bool_kind v) → FitsAnswer k (chosen v y z)
chosen_fits k y z p q v fit = bool_form (λ v. FitsAnswer k (chosen v y z)) by_case v fit
  where
    by_case : (b : Bool) → FitsAnswer k (chosen (Some (Plain (scalar.Bool b))) y z)
    by_case true = p
    by_case false = q

logic_fits : (o : Binary) → is_logic o ≡ true → (x y : Answer) → FitsAnswer bool_kind x → FitsAnswer bool_kind y → FitsAnswer bool_kind (of_two o x y)
logic_fits binary.And e x y p q = then_fits (λ a. chosen a y (bool false)) bool_kind bool_kind (chosen_fits bool_kind y (bool false) q refl) x p
logic_fits binary.Or e x y p q = then_fits (λ a. chosen a (bool true) y) bool_kind bool_kind (chosen_fits bool_kind (bool true) y refl q) x p
logic_fits _ e x y p q = absurd (false≢true e)

-- what a map has at a key is of its type
found_fits : (k : KeyType) (x : ScalarType) (key : Scalar) (es : List (Scalar × Scalar)) → list_all (λ e. is_of_key k e.0 && is_of_scalar x e.1) es ≡ true → FitsAnswer (plain x) (found (option_map Plain (map.find scalar_cmp key es)))
found_fits k x key [] all = tt
found_fits k x key (e ∷ es) all =
    let parts = and_parts (is_of_key k e.0 && is_of_scalar x e.1) (list_all (λ e. is_of_key k e.0 && is_of_scalar x e.1) es) all in
    elim (eq_by_cmp scalar_cmp key e.0) as (λ b. FitsAnswer (plain x) (found (option_map Plain (cond b (Some e.1) (map.find scalar_cmp key es))))) [
      | true ↦ (and_parts (is_of_key k e.0) (is_of_scalar x e.1) parts.0).1
      | false ↦ found_fits k x key es parts.1
    ]

value_fits : (k : KeyType) (x : ScalarType) (key : Scalar) (m : Table) → IsTrue (is_of (value_type.Map k x) (Mapped m)) → FitsAnswer (plain x) (found (option_map Plain (map.get m key)))
value_fits k x key m all =
    subst (λ o. FitsAnswer (plain x) (found (option_map Plain o))) (sym (map.get-entries m key)) (found_fits k x key (map.entries m) all)

on_texts_fit : (f : List ℕ → List ℕ → Answer) (k : ValueKind) → ((a b : List ℕ) → FitsAnswer k (f a b)) → (x y : Answer) → FitsAnswer text_kind x → FitsAnswer text_kind y → FitsAnswer k (both (on_texts f) x y)
on_texts_fit f k h x y p q =
    both_fits (on_texts f) text_kind text_kind k
    (λ a b p q. text_form (λ a. FitsAnswer k (on_texts f a b)) (λ r. text_form (λ b. FitsAnswer k (on_texts f (Some (Plain (scalar.Text r))) b)) (λ s. h r s) b q) a p)
    x y p q

texts_fit : (o : Binary) → is_on_texts o ≡ true → (x y : Answer) → FitsAnswer text_kind x → FitsAnswer text_kind y → FitsAnswer (plain (made_of_texts o)) (of_two o x y)
texts_fit binary.Concat e x y p q = on_texts_fit (λ a b. text (a ++ b)) text_kind (λ a b. text_fits (a ++ b)) x y p q
texts_fit _ e x y p q = absurd (false≢true e)

two_fits : {o : Binary} {i j k : ValueKind} → TypesTwo o i j k → (x y : Answer) → FitsAnswer i x → FitsAnswer j y → FitsAnswer k (of_two o x y)
two_fits (typing.arithmetic {o = o} e) x y p q = arithmetic_fits o e x y p q
two_fits (typing.order {o = o} e) x y p q = order_fits o e x y p q
two_fits (typing.equality {o = o} {t = t} e) x y p q = equality_fits o t e x y p q
two_fits (typing.logic {o = o} e) x y p q = logic_fits o e x y p q
two_fits (typing.in_set {k = k} {t = t} e) x y p q =
    both_fits contained (Value (value_type.Set k)) (plain t) bool_kind
    (λ a b p q. set_form (λ a. FitsAnswer bool_kind (contained a b)) k (λ s all. scalar_form (λ b. FitsAnswer bool_kind (contained (Some (Keyed s)) b)) t (λ key is. refl) b q) a p)
    x y p q
two_fits (typing.in_map {k = k} {x = z} {t = t} e) x y p q =
    both_fits contained (Value (value_type.Map k z)) (plain t) bool_kind
    (λ a b p q. map_form (λ a. FitsAnswer bool_kind (contained a b)) k z (λ m all. scalar_form (λ b. FitsAnswer bool_kind (contained (Some (Mapped m)) b)) t (λ key is. refl) b q) a p)
    x y p q
two_fits (typing.get {k = k} {x = z} {t = t} e) x y p q =
    both_fits at_key (Value (value_type.Map k z)) (plain t) (plain z)
    (λ a b p q. map_form (λ a. FitsAnswer (plain z) (at_key a b)) k z (λ m all. scalar_form (λ b. FitsAnswer (plain z) (at_key (Some (Mapped m)) b)) t (λ key is. value_fits k z key m all) b q) a p)
    x y p q
two_fits (typing.on_texts {o = o} e) x y p q = texts_fit o e x y p q

literal_fits : (s : Scalar) → IsTrue (is_of_scalar (type_of s) s)
literal_fits scalar.Unit = refl
literal_fits (scalar.Int z) = refl
literal_fits (scalar.Bool b) = refl
literal_fits (scalar.Text s) = refl

argument_fits : (kinds : List ValueKind) (values : List (Option View)) → AllFit kinds values → (n : ℕ) (k : ValueKind) → slice_get kinds n ≡ Some k → IsTrue (fits k (slice_index_or values n None))
argument_fits [] values all n k is = absurd (cc)
argument_fits (j ∷ kinds) [] all n k is = absurd all
argument_fits (j ∷ kinds) (v ∷ values) all zero k is = let same : j ≡ k = cc in subst (λ k. IsTrue (fits k v)) same all.0
argument_fits (j ∷ kinds) (v ∷ values) all (suc n) k is = argument_fits kinds values all.1 n k is

pub apply_fits : (kinds : List ValueKind) (values : List (Option View)) → AllFit kinds values → {tree : BodyTree} {k : ValueKind} → HasKind kinds tree k → FitsAnswer k (apply tree values)
apply_fits kinds values all (typing.literal {s = s} e) = subst (λ t. IsTrue (is_of_scalar t s)) (sym e) (literal_fits s)
apply_fits kinds values all (typing.argument {n = n} {k = k} is) = argument_fits kinds values all n k is
apply_fits kinds values all typing.absent = refl
apply_fits kinds values all (typing.one {o = o} {a = a} {j = j} {k = k} p types) =
    then_fits (of_one o) j k (one_fits types) (apply a values) (apply_fits kinds values all p)
apply_fits kinds values all (typing.two {o = o} {a = a} {b = b} p q types) =
    two_fits types (apply a values) (apply b values) (apply_fits kinds values all p) (apply_fits kinds values all q)
apply_fits kinds values all (typing.choice {c = c} {a = a} {b = b} {k = k} o p q) =
    then_fits (λ v. chosen v (apply a values) (apply b values)) bool_kind k
    (chosen_fits k (apply a values) (apply b values) (apply_fits kinds values all p) (apply_fits kinds values all q))
    (apply c values) (apply_fits kinds values all o)

-- ---- operations that cannot fault
abbrev pub HasNoFault : Answer → Type 0
HasNoFault (Ok v) = Unit {0}
HasNoFault (Err kind) = ⊥

pub then_safe : (x : Answer) (next : Option View → Answer) → HasNoFault x → ((v : Option View) → HasNoFault (next v)) → HasNoFault (and_then x next)
then_safe (Ok v) next safe each = each v
then_safe (Err kind) next safe each = absurd safe

both_safe : (f : Option View → Option View → Answer) (x y : Answer) → HasNoFault x → HasNoFault y → ((a b : Option View) → HasNoFault (f a b)) → HasNoFault (both f x y)
both_safe f x y first second each = then_safe x (λ a. and_then y (λ b. f a b)) first (λ a. then_safe y (λ b. f a b) second (λ b. each a b))

pub chosen_safe : (v : Option View) (x y : Answer) → HasNoFault x → HasNoFault y → HasNoFault (chosen v x y)
chosen_safe (Some (Plain (scalar.Bool true))) x y first second = first
chosen_safe (Some (Plain (scalar.Bool false))) x y first second = second
chosen_safe _ x y first second = tt

ints_safe : (f : ℤ → ℤ → Answer) → ((a b : ℤ) → HasNoFault (f a b)) → (a b : Option View) → HasNoFault (on_ints f a b)
ints_safe f each (Some (Plain (scalar.Int a))) (Some (Plain (scalar.Int b))) = each a b
ints_safe f each _ _ = tt

scalars_safe : (f : Scalar → Scalar → Answer) → ((a b : Scalar) → HasNoFault (f a b)) → (a b : Option View) → HasNoFault (on_scalars f a b)
scalars_safe f each (Some (Plain a)) (Some (Plain b)) = each a b
scalars_safe f each _ _ = tt

contained_safe : (a b : Option View) → HasNoFault (contained a b)
contained_safe (Some (Keyed s)) (Some (Plain k)) = tt
contained_safe (Some (Mapped m)) (Some (Plain k)) = tt
contained_safe _ _ = tt

pub one_safe : (o : Unary) (v : Option View) → IsFalse (can_fault_one o) → HasNoFault (of_one o v)
one_safe unary.Neg v never = absurd (true≢false never)
one_safe unary.Size v never = absurd (true≢false never)
one_safe unary.Front v never = absurd (true≢false never)
one_safe unary.GetSome v never = absurd (true≢false never)
one_safe unary.Not (Some (Plain (scalar.Bool a))) never = tt
one_safe unary.Not _ never = tt
one_safe unary.Length (Some (Plain (scalar.Text a))) never = tt
one_safe unary.Length _ never = tt
one_safe _ v never = tt

pub two_safe : (o : Binary) (x y : Answer) → IsFalse (can_fault_two o) → HasNoFault x → HasNoFault y → HasNoFault (of_two o x y)
two_safe binary.Eq x y never first second = both_safe _ x y first second (scalars_safe _ (λ a b. tt))
two_safe binary.Ne x y never first second = both_safe _ x y first second (scalars_safe _ (λ a b. tt))
two_safe binary.Lt x y never first second = both_safe _ x y first second (ints_safe _ (λ a b. tt))
two_safe binary.Le x y never first second = both_safe _ x y first second (ints_safe _ (λ a b. tt))
two_safe binary.Gt x y never first second = both_safe _ x y first second (ints_safe _ (λ a b. tt))
two_safe binary.Ge x y never first second = both_safe _ x y first second (ints_safe _ (λ a b. tt))
two_safe binary.And x y never first second = then_safe x (λ a. chosen a y (bool false)) first (λ a. chosen_safe a y (bool false) second tt)
two_safe binary.Or x y never first second = then_safe x (λ a. chosen a (bool true) y) first (λ a. chosen_safe a (bool true) y tt second)
two_safe binary.Contains x y never first second = both_safe contained x y first second contained_safe
two_safe _ x y never first second = absurd (true≢false never)
