-- Ordered collections that are equal have equal views, and the other way round.
use Rattle.std.proofs.Common.{◌≡◌, ◌&&◌, not, ℤ, Bool, true, false, List, [], ◌∷◌, Option, Some, None, Bor, map, refl, sym, subst, ap, ◌∙◌}
use Rattle.std.proofs.lemmas.Bool.{false≢true, true≢false}
use Rattle.std.specs.Prelude.{◌↔◌, is_some}
use Rattle.std.specs.Map.Iter.{TakesFirst, deref}
use Rattle.std.specs.Option.{option_copied}
use Rattle.std.proofs.lemmas.Map.Lookups.{btree_map_eq-Decides}
use Rattle.std.proofs.lemmas.Slice.Eq.{slice_eq-Decides}
use Rattle.std.specs.Bool.{Decides}
use Rattle.std.specs.BTreeMap.{BTreeMap}
use Rattle.std.specs.Cmp.{Equal-is, eq_by_cmp_equiv, signed_Decides}
use Rattle.std.specs.Cmp.Lexicographic.{pointwise}
use Rattle.std.specs.FinMap as finite_map
use Rattle.std.specs.FinSet as set
use Rattle.std.specs.List.Sorted.{IsStrictlySortedBy}
use Rattle.std.specs.Map.{keys_of}
use Rattle.std.specs.Ordering.{eq_by_cmp, int_eq}
use Rattle.tsl_value.specs.View.{number_of, scalar_cmp}
use Rattle.tsl_value.specs.declared.scalar.Scalar.{Scalar}
use Rattle.tsl_value.specs.declared.scalar.Scalar.TheVariants as scalar
use Rattle.tsl_value.specs.inner.ScalarOrder.{scalar_cmp_total}
use Rattle.tsl_value.proofs.ScalarOrder.{scalar_cmp-IsAntisymmetric}
use Rattle.aggregate_store.specs.inner.Entries.{entry_of}
use Rattle.aggregate_store.proofs.FiniteMaps.{entries-of_entries, keys-of_keys}
use Rattle.aggregate_store.proofs.Numbers.{images_same}

abbrev is_same : Scalar → Scalar → Bool
is_same a b = eq_by_cmp scalar_cmp a b

same_scalar : (a b : Scalar) → Decides (is_same a b) (a ≡ b)
same_scalar a b = (
  λ is. scalar_cmp-IsAntisymmetric a b ((Equal-is (scalar_cmp a b)).0 is),
  λ same. subst (λ c. is_same a c ≡ true) same ((eq_by_cmp_equiv scalar_cmp_total).refl a),
)

pub queues_same : (xs ys : List Scalar) (r : Bool) → r ≡ pointwise is_same xs ys → Decides r (xs ≡ ys)
queues_same xs ys r is = slice_eq-Decides same_scalar xs ys r is

-- rising lists of the same keys are the same
pub same_keys : (xs ys : List Scalar) → IsStrictlySortedBy scalar_cmp xs → IsStrictlySortedBy scalar_cmp ys → set.from_list {R = scalar_cmp} xs ≡ set.from_list ys → xs ≡ ys
same_keys xs ys first second same =
    sym (keys-of_keys scalar_cmp_total scalar_cmp-IsAntisymmetric xs first)
    ∙ ap (λ u. finite_map.keys (finite_map.from_entries {R = scalar_cmp} (map (λ k. (k, tt)) (set.items u)))) same
    ∙ keys-of_keys scalar_cmp_total scalar_cmp-IsAntisymmetric ys second

pub sets_same : (xs ys : List Scalar) (r : Bool) → Decides r (xs ≡ ys) → IsStrictlySortedBy scalar_cmp xs → IsStrictlySortedBy scalar_cmp ys → Decides r (set.from_list {R = scalar_cmp} xs ≡ set.from_list ys)
sets_same xs ys r lists first second = (λ yes. ap set.from_list (lists.0 yes), λ same. lists.1 (same_keys xs ys first second same))

-- ---- numbers and scalars, one after the other

module _ {A B : Type 0} (f : A → B) where
  -- whether all agree is whether those that are left do
  abbrev pub AgreeAs : List A → List B → List A → List B → Type 0
  AgreeAs numbers scalars ns ks = (map f numbers ≡ scalars) ↔ (map f ns ≡ ks)

abbrev pub head_of : {B : Type 0} → List B → Option B
head_of [] = None
head_of (k ∷ ks) = Some k

-- what an iterator gives is the first of what was left
pub head_left : (s t : List Scalar) (r : Option (Bor Scalar)) → TakesFirst deref s r t → option_copied r ≡ head_of s
head_left s t None left = sym (ap head_of left.0)
head_left s t (Some x) left = sym (ap head_of left)

pub some_left : {L B : Type 0} (shows : L → B) (s t : List B) (r : Option L) → TakesFirst shows s r t → is_some (head_of s) ≡ is_some r
some_left shows s t None left = ap (λ xs. is_some (head_of xs)) left.0
some_left shows s t (Some x) left = ap (λ xs. is_some (head_of xs)) left

module _ {A B : Type 0} (f : A → B) (numbers : List A) (scalars : List B) where
  pub agree_not : (n : A) (before ns : List A) (left : List B) → before ≡ n ∷ ns → ¬ (head_of left ≡ Some (f n)) → AgreeAs f numbers scalars before left → Decides false (map f numbers ≡ scalars)
  agree_not n before ns left numbers_are other agree = (
    λ yes. absurd (false≢true yes),
    λ same. absurd (other (ap head_of (sym (agree.0 same) ∙ ap (map f) numbers_are))),
  )

  pub agree_all : (before : List A) (left : List B) (r : Bool) → before ≡ [] → is_some (head_of left) ≡ not r → AgreeAs f numbers scalars before left → Decides r (map f numbers ≡ scalars)
  agree_all before [] true none ended agree = (λ yes. agree.1 (ap (map f) none), λ same. refl)
  agree_all before [] false none ended agree = absurd (false≢true ended)
  agree_all before (k ∷ ks) true none ended agree = absurd (true≢false ended)
  agree_all before (k ∷ ks) false none ended agree = (
    λ yes. absurd (false≢true yes),
    λ same. absurd (false≢true (ap (λ xs. is_some (head_of xs)) (sym (ap (map f) none) ∙ agree.0 same))),
  )

-- ---- maps

pub tables_same : (xs ys : List (Scalar × Scalar)) (r : Bool) → Decides r (xs ≡ ys) → IsStrictlySortedBy scalar_cmp (keys_of xs) → IsStrictlySortedBy scalar_cmp (keys_of ys) → Decides r (finite_map.from_entries {R = scalar_cmp} xs ≡ finite_map.from_entries ys)
tables_same xs ys r lists first second = (
  λ yes. ap finite_map.from_entries (lists.0 yes),
  λ same. lists.1 (sym (entries-of_entries scalar_cmp_total xs first) ∙ ap finite_map.entries same ∙ entries-of_entries scalar_cmp_total ys second),
)

pub scalar_entries_same : (m n : BTreeMap Scalar Scalar) (r : Bool) → r ≡ pointwise (λ (p q : Scalar × Scalar). is_same p.0 q.0 && is_same p.1 q.1) m.entries n.entries → Decides r (m.entries ≡ n.entries)
scalar_entries_same m n r is = btree_map_eq-Decides same_scalar same_scalar m n r is

pub entry_same : (key found value : Scalar) (number : ℤ) (r : Bool) → key ≡ scalar.Int number → r ≡ is_same found value → Decides r ((key, found) ≡ entry_of (number, value))
entry_same key found value number r key_is is = (
  λ yes. (λ i. (key_is i, (same_scalar found value).0 (sym is ∙ yes) i)),
  λ same. is ∙ (same_scalar found value).1 (ap (λ (e : Scalar × Scalar). e.1) same),
)

-- an entry with its key as a number
abbrev number_entry : Scalar × Scalar → ℤ × Scalar
number_entry e = (number_of e.0, e.1)

pub number_entries_same : (m n : BTreeMap ℤ Scalar) (r : Bool) → r ≡ pointwise (λ (p q : ℤ × Scalar). int_eq p.0 q.0 && is_same p.1 q.1) m.entries n.entries → Decides r (map entry_of m.entries ≡ map entry_of n.entries)
number_entries_same m n r is =
    images_same entry_of number_entry (λ e. refl) m.entries n.entries r (btree_map_eq-Decides signed_Decides same_scalar m n r is)
