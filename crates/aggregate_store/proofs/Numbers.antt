-- Numbers as keys: their order is that of the scalars that they are.
use Rattle.std.proofs.Common.{◌≡◌, ℕ, ℤ, Bool, true, false, ◌||◌, cond, List, [], ◌∷◌, ◌++◌, map, refl, sym, ap, ◌∙◌, append_assoc}
use Rattle.std.proofs.lemmas.Bool.{true≢false}
use Rattle.std.proofs.lemmas.Simd.{map-map}
use Rattle.std.proofs.lemmas.Slice.Eq.{slice_eq-Decides}
use Rattle.std.specs.Bool.{Decides}
use Rattle.std.specs.BTreeSet as sorted
use Rattle.std.specs.BTreeSet.{BTreeSet}
use Rattle.std.specs.Cmp.{signed_Decides}
use Rattle.std.specs.Cmp.Lexicographic.{pointwise}
use Rattle.std.specs.FinSet as set
use Rattle.std.specs.List.{AllByRecursion, list_any}
use Rattle.std.specs.List.Sorted.{IsStrictlySortedBy}
use Rattle.std.specs.Ordering.{eq_by_cmp, int_cmp, int_eq, is_eq, ordering_then}
use Rattle.std.specs.declared.cmp.Ordering.TheVariants.{Less, Equal, Greater}
use Rattle.tsl_value.specs.Print.{in_order, listed, scalar_text}
use Rattle.tsl_value.specs.View.{number_of, scalar_cmp}
use Rattle.tsl_value.specs.inner.ScalarOrder.{scalar_cmp_total}
use Rattle.tsl_value.specs.declared.scalar.Scalar.{Scalar}
use Rattle.tsl_value.specs.declared.scalar.Scalar.TheVariants as scalar
use Rattle.tsl_value.proofs.ScalarOrder.{scalar_cmp-IsAntisymmetric}
use Rattle.aggregate_store.specs.inner.Keys.{set_of_numbers}
use Rattle.aggregate_store.proofs.FiniteMaps.{keys-of_keys, remove-absent, set-insert, set-remove}

pub numbers_cmp : (a b : ℤ) → scalar_cmp (scalar.Int a) (scalar.Int b) ≡ int_cmp a b
numbers_cmp a b = elim (int_cmp a b) as (λ o. ordering_then o Equal ≡ o) [ Less ↦ refl | Equal ↦ refl | Greater ↦ refl ]

-- ---- whether a key is among them

among : (q : ℤ) (ns : List ℤ) → list_any (eq_by_cmp scalar_cmp (scalar.Int q)) (map scalar.Int ns) ≡ list_any (eq_by_cmp int_cmp q) ns
among q [] = refl
among q (n ∷ ns) = (λ i. is_eq (numbers_cmp q n i) || among q ns i)

abbrev pub is_int : Scalar → Bool
is_int (scalar.Int n) = true
is_int _ = false

abbrev pub IsOther : Scalar → Type 0
IsOther q = (n : ℤ) → ¬ (q ≡ scalar.Int n)

pub is_other : (q : Scalar) → IsOther q → is_int q ≡ false
is_other scalar.Unit other = refl
is_other (scalar.Int n) other = absurd (other n refl)
is_other (scalar.Bool b) other = refl
is_other (scalar.Text bytes) other = refl

not_among : (q : Scalar) (ns : List ℤ) → is_int q ≡ false → list_any (eq_by_cmp scalar_cmp q) (map scalar.Int ns) ≡ false
not_among q [] other = refl
not_among scalar.Unit (n ∷ ns) other = not_among scalar.Unit ns other
not_among (scalar.Int q) (n ∷ ns) other = absurd (true≢false other)
not_among (scalar.Bool b) (n ∷ ns) other = not_among (scalar.Bool b) ns other
not_among (scalar.Text bytes) (n ∷ ns) other = not_among (scalar.Text bytes) ns other

-- What is asked of a scalar is what is asked of the number that it is, and any other key is not there.
pub record AsksNumbers {A : Type 0} (absent : A) (asks : Scalar → A) (of_number : ℤ → A) : Type 0 where
  pub number : (q : ℤ) → asks (scalar.Int q) ≡ of_number q
  pub other : (q : Scalar) → is_int q ≡ false → asks q ≡ absent

-- where what is asked of numbers changes at one of them, so does what is asked of scalars
pub changed : {A : Type 0} (absent : A) (new old : Scalar → A) (ns os : ℤ → A) → AsksNumbers absent new ns → AsksNumbers absent old os
    → (k : ℤ) (x : A) → ((q : ℤ) → ns q ≡ cond (eq_by_cmp int_cmp k q) x (os q))
    → (q : Scalar) → new q ≡ cond (eq_by_cmp scalar_cmp (scalar.Int k) q) x (old q)
changed absent new old ns os now before k x is scalar.Unit = now.other scalar.Unit refl ∙ sym (before.other scalar.Unit refl)
changed absent new old ns os now before k x is (scalar.Int q) =
    now.number q ∙ is q ∙ (λ i. cond (is_eq (sym (numbers_cmp k q) i)) x (sym (before.number q) i))
changed absent new old ns os now before k x is (scalar.Bool b) = now.other (scalar.Bool b) refl ∙ sym (before.other (scalar.Bool b) refl)
changed absent new old ns os now before k x is (scalar.Text bytes) = now.other (scalar.Text bytes) refl ∙ sym (before.other (scalar.Text bytes) refl)

abbrev is_among : List Scalar → Scalar → Bool
is_among ks q = list_any (eq_by_cmp scalar_cmp q) ks

pub keys_ask : (ns : List ℤ) → AsksNumbers false (is_among (map scalar.Int ns)) (λ q. list_any (eq_by_cmp int_cmp q) ns)
keys_ask ns = record { number = λ q. among q ns; other = λ q other. not_among q ns other }

module _ (s : BTreeSet ℤ) where
  pub contains_number : (q : ℤ) → set.contains (set_of_numbers s) (scalar.Int q) ≡ sorted.contains int_cmp s q
  contains_number q = set.contains-from_list scalar_cmp_total (map scalar.Int s.keys) (scalar.Int q) ∙ among q s.keys

  pub contains_other : (q : Scalar) → IsOther q → set.contains (set_of_numbers s) q ≡ false
  contains_other q other = set.contains-from_list scalar_cmp_total (map scalar.Int s.keys) q ∙ not_among q s.keys (is_other q other)

  pub other_removed : (q : Scalar) → IsOther q → set_of_numbers s ≡ set.remove (set_of_numbers s) q
  other_removed q other = sym (remove-absent scalar_cmp_total scalar_cmp-IsAntisymmetric (set_of_numbers s) q (contains_other q other))

-- ---- their order

rise : (n : ℤ) (ns : List ℤ) → AllByRecursion (λ y. int_cmp n y ≡ Less) ns → AllByRecursion (λ y. scalar_cmp (scalar.Int n) y ≡ Less) (map scalar.Int ns)
rise n [] above = tt
rise n (m ∷ ns) above = (numbers_cmp n m ∙ above.0, rise n ns above.1)

pub numbers_rise : (ns : List ℤ) → IsStrictlySortedBy int_cmp ns → IsStrictlySortedBy scalar_cmp (map scalar.Int ns)
unfolding IsStrictlySortedBy
numbers_rise [] rising = tt
numbers_rise (n ∷ ns) rising = (rise n ns rising.0, numbers_rise ns rising.1)

-- ---- one change

module _ (s n : BTreeSet ℤ) (k : ℤ) where
  keys_changed : (b : Bool) → sorted.Updates int_cmp s n k b → (q : Scalar) → is_among (map scalar.Int n.keys) q ≡ cond (eq_by_cmp scalar_cmp (scalar.Int k) q) b (is_among (map scalar.Int s.keys) q)
  keys_changed b updates = changed false (is_among (map scalar.Int n.keys)) (is_among (map scalar.Int s.keys)) _ _ (keys_ask n.keys) (keys_ask s.keys) k b updates.0

  pub number_added : sorted.Updates int_cmp s n k true → set_of_numbers n ≡ set.insert (set_of_numbers s) (scalar.Int k)
  number_added updates =
      set-insert scalar_cmp_total scalar_cmp-IsAntisymmetric (map scalar.Int s.keys) (map scalar.Int n.keys) (scalar.Int k) (keys_changed true updates)

  pub number_removed : sorted.Updates int_cmp s n k false → set_of_numbers n ≡ set.remove (set_of_numbers s) (scalar.Int k)
  number_removed updates =
      set-remove scalar_cmp_total scalar_cmp-IsAntisymmetric (map scalar.Int s.keys) (map scalar.Int n.keys) (scalar.Int k) (keys_changed false updates)

-- ---- numbers that are gathered

pub number_gathered : {A B : Type 0} (f : A → B) (list new whole : List B) (n : A) (before after : List A) → new ≡ list ++ f n ∷ [] → before ≡ n ∷ after → list ++ map f before ≡ whole → new ++ map f after ≡ whole
number_gathered f list new whole n before after is left so =
    ap (λ xs. xs ++ map f after) is
    ∙ append_assoc list (f n ∷ []) (map f after)
    ∙ ap (λ ns. list ++ map f ns) (sym left)
    ∙ so

abbrev pub number_text : ℤ → List ℕ
number_text n = scalar_text (scalar.Int n)

pub numbers_text : (ns : List ℤ) → IsStrictlySortedBy int_cmp ns → listed (map number_text ns) ≡ listed (map scalar_text (in_order (set.from_list (map scalar.Int ns))))
numbers_text ns rising =
    ap listed (sym (map-map scalar_text scalar.Int ns))
    ∙ ap (λ ks. listed (map scalar_text ks)) (sym (keys-of_keys scalar_cmp_total scalar_cmp-IsAntisymmetric (map scalar.Int ns) (numbers_rise ns rising)))

-- ---- sameness

-- lists are the same where their images are, by a function that has another way back
module _ {A B : Type 0} (f : A → B) (back : B → A) (there : (x : A) → back (f x) ≡ x) where
  all_back : (xs : List A) → map back (map f xs) ≡ xs
  all_back [] = refl
  all_back (x ∷ xs) = (λ i. there x i ∷ all_back xs i)

  pub images_same : (xs ys : List A) (r : Bool) → Decides r (xs ≡ ys) → Decides r (map f xs ≡ map f ys)
  images_same xs ys r same = (
    λ yes. ap (map f) (same.0 yes),
    λ alike. same.1 (sym (all_back xs) ∙ ap (map back) alike ∙ all_back ys),
  )

pub numbers_same : (xs ys : List ℤ) (r : Bool) → r ≡ pointwise int_eq xs ys → Decides r (map scalar.Int xs ≡ map scalar.Int ys)
numbers_same xs ys r is = images_same scalar.Int number_of (λ n. refl) xs ys r (slice_eq-Decides signed_Decides xs ys r is)
