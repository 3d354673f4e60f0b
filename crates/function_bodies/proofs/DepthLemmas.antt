-- How deep calls nest where there is an order in which called functions come first.
use Rattle.std.proofs.Common.{◌≡◌, ℕ, zero, suc, ◌+◌, ◌<◌, ◌≤◌, Bool, true, false, ◌||◌, eqb, List, [], ◌∷◌, ◌++◌, length, refl, sym, ap, subst, ◌∙◌, append_assoc, ◌⊎◌, inl, inr, arith}
use Rattle.std.specs.List.{Contains}
use Rattle.std.proofs.lemmas.Bool.{eqb-true}
use Rattle.std.proofs.lemmas.Bool.Decides.{nat_tests}
use Rattle.std.proofs.lemmas.List.Elements.{Contains-append_cases, Contains-append_right}
use Rattle.std.proofs.lemmas.List.{append-nil}
use Rattle.syntax_tree.specs.Tree as tree
use Rattle.definition_cycles.specs.Calls.{Calls}
use Rattle.definition_cycles.proofs.RangeLemmas.{called_below}
use Rattle.function_bodies.specs.inner.Calls.{IsCallOrder}
use Rattle.function_bodies.specs.inner.Laws.{NestsWithin}
use Rattle.tsl_value.proofs.Lists.{only}

-- ---- how many of the numbers below a bound are listed
abbrev has : List ℕ → ℕ → Bool
has [] x = false
has (y ∷ ys) x = eqb x y || has ys x

abbrev one_if : Bool → ℕ
one_if true = 1
one_if false = 0

abbrev listed : List ℕ → ℕ → ℕ
listed xs zero = 0
listed xs (suc n) = listed xs n + one_if (has xs n)

listed_most : (xs : List ℕ) (n : ℕ) → listed xs n ≤ n
listed_most xs zero = omega arith
listed_most xs (suc n) = by (has xs n) (listed_most xs n)
  where
    by : (b : Bool) → listed xs n ≤ n → listed xs n + one_if b ≤ suc n
    by true h = omega arith
    by false h = omega arith

has-append : (xs : List ℕ) (x y : ℕ) → has (xs ++ y ∷ []) x ≡ (has xs x || (eqb x y || false))
has-append [] x y = refl
has-append (z ∷ xs) x y = by (eqb x z) (has-append xs x y)
  where
    by : (b : Bool) → has (xs ++ y ∷ []) x ≡ (has xs x || (eqb x y || false)) → (b || has (xs ++ y ∷ []) x) ≡ ((b || has xs x) || (eqb x y || false))
    by true h = refl
    by false h = h

one_more : (a b : Bool) → one_if a ≤ one_if (a || b)
one_more true b = omega arith
one_more false true = omega arith
one_more false false = omega arith

listed_more : (xs : List ℕ) (y n : ℕ) → listed xs n ≤ listed (xs ++ y ∷ []) n
listed_more xs y zero = omega arith
listed_more xs y (suc n) =
    let same = ap one_if (has-append xs n y) in
    let more = one_more (has xs n) (eqb n y || false) in
    let before = listed_more xs y n in omega arith

eqb_same : (x : ℕ) → eqb x x ≡ true
eqb_same x = grind (arith, nat_tests)

new_by : (xs : List ℕ) (x n : ℕ) (b : Bool) → eqb n x ≡ b → has xs x ≡ false → x < suc n → (x < n → suc (listed xs n) ≤ listed (xs ++ x ∷ []) n) → suc (listed xs (suc n)) ≤ listed (xs ++ x ∷ []) (suc n)
new_by xs x n true e new h before =
    let is : n ≡ x = eqb-true n x e in
    let old : has xs n ≡ false = ap (has xs) is ∙ new in
    let fresh : has (xs ++ x ∷ []) n ≡ true = has-append xs n x ∙ ap (λ b. b || (eqb n x || false)) old ∙ ap (λ b. b || false) e in
    let none = ap one_if old in
    let one = ap one_if fresh in
    let rest = listed_more xs x n in omega arith
new_by xs x n false e new h before =
    let other : x ≡ n → ⊥ = λ is. absurd (cc (ap (λ y. eqb n y) is, eqb_same n)) in
    let rest : suc (listed xs n) ≤ listed (xs ++ x ∷ []) n = before (omega (arith, other)) in
    let same = ap one_if (has-append xs n x) in
    let more = one_more (has xs n) (eqb n x || false) in omega arith

listed_new : (xs : List ℕ) (x n : ℕ) → has xs x ≡ false → x < n → suc (listed xs n) ≤ listed (xs ++ x ∷ []) n
listed_new xs x zero new h = absurd (omega arith)
listed_new xs x (suc n) new h = new_by xs x n (eqb n x) refl new h (listed_new xs x n new)

has_there : (xs : List ℕ) (x : ℕ) → has xs x ≡ true → Contains xs x
has_there [] x h = absurd (cc)
has_there (y ∷ ys) x h = by (eqb x y) refl h (has_there ys x)
  where
    by : (b : Bool) → eqb x y ≡ b → (b || has ys x) ≡ true → (has ys x ≡ true → Contains ys x) → Contains (y ∷ ys) x
    by true e h f = (0, omega arith, sym (eqb-true x y e))
    by false e h f = Contains-append_right (y ∷ []) ys x (f h)

-- ---- calls of what stands in front nest no deeper than how many items stand there
pub nests_more : (items : List tree.Item) (d e i : ℕ) → d ≤ e → NestsWithin items d i → NestsWithin items e i
nests_more items zero e i h n = absurd n
nests_more items (suc d) zero i h n = absurd (omega arith)
nests_more items (suc d) (suc e) i h n = λ j calls. nests_more items d e j (omega arith) (n j calls)

pub called_is_item : (items : List tree.Item) (i j : ℕ) → Calls items i j → j < length items
called_is_item items i j calls = called_below items calls.place calls.definition calls.seen calls.part j calls.is_body calls.stands_for

module _ (items : List tree.Item) (order : List ℕ) (is_order : IsCallOrder items order) where
  abbrev AllNest : List ℕ → Type 0
  AllNest front = (i : ℕ) → i < length items → Contains front i → NestsWithin items (listed front (length items)) i

  first_nests : (front rest : List ℕ) (x : ℕ) → order ≡ front ++ x ∷ rest → AllNest front → x < length items → (b : Bool) → has front x ≡ b → NestsWithin items (listed (front ++ x ∷ []) (length items)) x
  first_nests front rest x is before lt true e = nests_more items _ _ x (listed_more front x (length items)) (before x lt (has_there front x e))
  first_nests front rest x is before lt false e =
      let here : NestsWithin items (suc (listed front (length items))) x = λ j calls. before j (called_is_item items x j calls) (is_order.called_first front rest x j is calls) in
      nests_more items (suc (listed front (length items))) _ x (listed_new front x (length items) e lt) here

  one_further : (front rest : List ℕ) (x : ℕ) → order ≡ front ++ x ∷ rest → AllNest front → AllNest (front ++ x ∷ [])
  one_further front rest x is before i lt there = by (Contains-append_cases front (x ∷ []) i there)
    where
      by : Contains front i ⊎ Contains (x ∷ []) i → NestsWithin items (listed (front ++ x ∷ []) (length items)) i
      by (inl c) = nests_more items _ _ i (listed_more front x (length items)) (before i lt c)
      by (inr c) =
          let same : x ≡ i = only x i c in
          let P : ℕ → Type 0 = λ y. NestsWithin items (listed (front ++ x ∷ []) (length items)) y in
          let below : x < length items = omega arith in
          subst P same (first_nests front rest x is before below (has front x) refl)

  all_further : (front rest : List ℕ) → order ≡ front ++ rest → AllNest front → AllNest order
  all_further front [] is before = let P : List ℕ → Type 0 = AllNest in subst P (sym (is ∙ append-nil front)) before
  all_further front (x ∷ rest) is before =
      all_further (front ++ x ∷ []) rest (is ∙ sym (append_assoc front (x ∷ []) rest)) (one_further front rest x is before)

  -- calls in an item nest no deeper than there are items
  pub nests : (i : ℕ) → i < length items → NestsWithin items (length items) i
  nests i lt =
      nests_more items (listed order (length items)) (length items) i (listed_most order (length items))
      (all_further [] order refl (λ k h (m, below, e). absurd (omega arith)) i lt (is_order.all i lt))
