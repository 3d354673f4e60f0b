-- Loops that gather what a collection has, and that fill one.
use Rattle.std.proofs.Common.{◌≡◌, ℕ, zero, suc, ◌+◌, ◌<◌, ◌≤◌, false, cond, List, [], ◌∷◌, ◌++◌, take, drop, length, get_or, Some, None, refl, sym, ap, ◌∙◌, append-nil, arith}
use Rattle.std.proofs.lemmas.List.{drop_more, length-drop, take_all, take_more}
use Rattle.std.proofs.lemmas.Map.Keys.{Less-from_sorted, sorted_tail}
use Rattle.std.specs.FinMap as finite_map
use Rattle.std.specs.FinSet as set
use Rattle.std.specs.List.Sorted.{IsStrictlySortedBy}
use Rattle.std.specs.Map.{keys_of}
use Rattle.std.specs.Ordering.{eq_by_cmp, is_eq, ordering_reverse}
use Rattle.std.specs.declared.cmp.Ordering.TheVariants.{Less}
use Rattle.tsl_value.specs.View.{Keys, Table, scalar_cmp}
use Rattle.tsl_value.specs.declared.scalar.Scalar.{Scalar}
use Rattle.tsl_value.specs.inner.ScalarOrder.{scalar_cmp_total}
use Rattle.tsl_value.proofs.ScalarOrder.{scalar_cmp-IsAntisymmetric}

pub all_gathered : {X : Type 0} (list whole left : List X) → list ++ left ≡ whole → left ≡ [] → list ≡ whole
all_gathered list whole left is none = sym (append-nil list) ∙ sym (ap (λ xs. list ++ xs) none) ∙ is

-- where all places are behind
pub all_taken : {X : Type 0} (xs : List X) (n : ℕ) → length xs ≤ n → take n xs ≡ xs
all_taken xs n past = take_all n xs past

-- ---- keys

pub one_key_more : (keys : List Scalar) (n : ℕ) (key : Scalar) (old new : Keys)
    → n < length keys
    → key ≡ get_or keys n key
    → old ≡ set.from_list (take n keys)
    → new ≡ set.insert old key
    → new ≡ set.from_list (take (n + 1) keys)
one_key_more keys n key old new there is so_far inserted =
    inserted ∙ ap (λ s. set.insert s key) so_far
    ∙ sym (set.from_list_push scalar_cmp_total scalar_cmp-IsAntisymmetric (take n keys) key)
    ∙ ap set.from_list (ap (λ k. take n keys ++ k ∷ []) is ∙ sym (take_more keys n key there))

-- ---- entries

apart_less : (a b : Scalar) → scalar_cmp a b ≡ Less → eq_by_cmp scalar_cmp b a ≡ false
apart_less a b less = ap is_eq (scalar_cmp_total.antisymm b a ∙ ap ordering_reverse less)

key_at : (es : List (Scalar × Scalar)) (n : ℕ) (e : Scalar × Scalar) → n < length es → get_or (keys_of es) n e.0 ≡ (get_or es n e).0
key_at [] n e there = absurd (omega arith)
key_at (f ∷ es) zero e there = refl
key_at (f ∷ es) (suc n) e there = key_at es n e (omega arith)

keys_length : (es : List (Scalar × Scalar)) → length (keys_of es) ≡ length es
keys_length [] = refl
keys_length (e ∷ es) = ap suc (keys_length es)

-- a key that comes after these is not among them
none_before : (es : List (Scalar × Scalar)) (n : ℕ) (e : Scalar × Scalar)
    → IsStrictlySortedBy scalar_cmp (keys_of es)
    → n < length es
    → e ≡ get_or es n e
    → finite_map.find scalar_cmp e.0 (take n es) ≡ None
none_before [] zero e rising there is = refl
none_before [] (suc n) e rising there is = absurd (omega arith)
none_before (f ∷ es) zero e rising there is = refl
none_before (f ∷ es) (suc n) e rising there is =
    let low : n < length es = omega arith in
    let below : scalar_cmp f.0 e.0 ≡ Less =
    ap (scalar_cmp f.0) (ap (λ (g : Scalar × Scalar). g.0) is ∙ sym (key_at es n e low))
    ∙ Less-from_sorted scalar_cmp (keys_of (f ∷ es)) 0 (suc n) e.0 rising (omega arith) (omega (arith, low, keys_length (f ∷ es))) in
    ap (λ b. cond b (Some f.1) (finite_map.find scalar_cmp e.0 (take n es))) (apart_less f.0 e.0 below)
    ∙ none_before es n e (sorted_tail scalar_cmp f.0 (keys_of es) rising) low is

pub one_entry_more : (es : List (Scalar × Scalar)) (n : ℕ) (e : Scalar × Scalar) (old new : Table)
    → IsStrictlySortedBy scalar_cmp (keys_of es)
    → n < length es
    → e ≡ get_or es n e
    → old ≡ finite_map.from_entries (take n es)
    → new ≡ finite_map.insert old e.0 e.1
    → new ≡ finite_map.from_entries (take (n + 1) es)
one_entry_more es n e old new rising there is so_far inserted =
    inserted
    ∙ ap (λ (m : Table). finite_map.insert m e.0 e.1) so_far
    ∙ sym (finite_map.from_entries_push scalar_cmp_total scalar_cmp-IsAntisymmetric (take n es) e.0 e.1 (none_before es n e rising there is))
    ∙ ap finite_map.from_entries (ap (λ k. take n es ++ k ∷ []) is ∙ sym (take_more es n e there))

-- ---- a map to which the entries of a list are added, one after the other

-- the map has those before what is left of all
pub record HasBefore (m : Table) (left all : List (Scalar × Scalar)) : Type 0 where
  pub place : ℕ
  pub rest : left ≡ drop place all
  pub made : m ≡ finite_map.from_entries (take place all)

pub has_none : (m : Table) (left all : List (Scalar × Scalar)) → m ≡ finite_map.empty → left ≡ all → HasBefore m left all
has_none m left all none same = record { place = 0; rest = same; made = none }

rest_within : {X : Type 0} (all : List X) (n : ℕ) (x : X) (xs : List X) → x ∷ xs ≡ drop n all → n < length all
rest_within all n x xs is = let counted : suc (length xs) ≡ length (drop n all) = ap length is in omega (arith, counted, length-drop n all)

none_after : {X : Type 0} (all : List X) (n : ℕ) → drop n all ≡ [] → length all ≤ n
none_after all n is = let counted : length (drop n all) ≡ 0 = ap length is in omega (arith, counted, length-drop n all)

abbrev first_of : {X : Type 0} → X → List X → X
first_of d [] = d
first_of d (x ∷ xs) = x

abbrev rest_of : {X : Type 0} → List X → List X
rest_of [] = []
rest_of (x ∷ xs) = xs

pub has_more : (m new : Table) (e : Scalar × Scalar) (before left all : List (Scalar × Scalar))
    → IsStrictlySortedBy scalar_cmp (keys_of all)
    → before ≡ e ∷ left
    → new ≡ finite_map.insert m e.0 e.1
    → HasBefore m before all
    → HasBefore new left all
has_more m new e before left all rising first inserted has =
    let there = sym first ∙ has.rest in
    let within = rest_within all has.place e left there in
    let parts : e ∷ left ≡ get_or all has.place e ∷ drop (has.place + 1) all = there ∙ drop_more all has.place e within in
    record {
      place = has.place + 1;
      rest = ap rest_of parts;
      made = one_entry_more all has.place e m new rising within (ap (first_of e) parts) has.made inserted;
    }

pub has_all : (m : Table) (left all : List (Scalar × Scalar)) → left ≡ [] → HasBefore m left all → m ≡ finite_map.from_entries all
has_all m left all none has = has.made ∙ ap finite_map.from_entries (all_taken all has.place (none_after all has.place (sym has.rest ∙ none)))
