-- The pairs with one first, as a chain that is followed from the last of them.
use Rattle.std.proofs.Common.{◌≡◌, ◌==◌, ℕ, zero, suc, ◌+◌, ◌<◌, ◌≤◌, ◌||◌, ◌&&◌, not, Bool, true, false, cond, List, [], ◌∷◌, ◌++◌, length, drop, refl, sym, ap, subst, ◌∙◌, inl, inr, arith, get_or-set_same, get_or-set_other, length-set}
use Rattle.std.specs.Prelude.{slice_index, slice_index_or, slice_set, eqb}
use Rattle.std.proofs.lemmas.Bool.{cases_Bool, cases_lt, eq-eqb, ne_eqb, eqb-true, eqb-false}
use Rattle.std.proofs.lemmas.List.{get_or_append_left, length_push}
use Rattle.std.proofs.Math.Seq.{get_or-append_seam}
use Rattle.std.proofs.lemmas.List.Folds.{list_any-append}
use Rattle.flat_core.specs.declared.reach.Marks.{Marks}
use Rattle.flat_core.specs.inner.Marks.{is_marked, is_waiting, Marked}
use Rattle.flat_core.specs.Members.{is_in}
use Rattle.flat_core.proofs.MarkLemmas.{marked_then}
use Rattle.translation_order.specs.inner.Taking.{seconds_of}
use Rattle.alias_paths.specs.inner.Search.{first_at, IsAfterLast, AreChained}

-- ---- one more is marked

or_swap : (p q : Bool) → (p || (q || false)) ≡ (q || p)
or_swap true true = refl
or_swap true false = refl
or_swap false true = refl
or_swap false false = refl

marked_same : (xs ys : List ℕ) (m n : Marks) → ((i : ℕ) → is_in xs i ≡ is_in ys i) → Marked xs m n → Marked ys m n
marked_same xs ys m n same h = record {
  one_each = h.one_each;
  marks = λ i. h.marks i ∙ ap (λ b. b || is_marked m i) (same i);
  waits = λ i. h.waits i ∙ ap (λ b. is_waiting m i || (b && not (is_marked m i))) (same i);
  same_left = h.same_left;
}

pub marked_front : (x : ℕ) (xs : List ℕ) (m n o : Marks) → Marked xs m n → Marked (x ∷ []) n o → Marked (x ∷ xs) m o
marked_front x xs m n o first second =
    marked_same (xs ++ x ∷ []) (x ∷ xs) m o (λ i. list_any-append (λ j. j == i) xs (x ∷ []) ∙ or_swap (is_in xs i) (x == i)) (marked_then xs (x ∷ []) m n o first second)

-- ---- the seconds from a place on

module _ (a : ℕ) where
  pub skipped : (pairs : List (ℕ × ℕ)) (b c : ℕ) → b ≤ c → ((k : ℕ) → b ≤ k → k < c → first_at pairs k ≡ a → ⊥) → seconds_of (drop b pairs) a ≡ seconds_of (drop c pairs) a
  skipped [] zero zero le none = refl
  skipped [] zero (suc c) le none = refl
  skipped [] (suc b) zero le none = refl
  skipped [] (suc b) (suc c) le none = refl
  skipped (p ∷ pairs) zero zero le none = refl
  skipped (p ∷ pairs) zero (suc c) le none =
      ap (λ t. cond t (p.1 ∷ seconds_of pairs a) (seconds_of pairs a)) (ne_eqb a p.0 (λ same. none 0 (omega arith) (omega arith) (sym same)))
      ∙ skipped pairs zero c (omega arith) (λ k ge lt is. none (suc k) (omega arith) (omega arith) is)
  skipped (p ∷ pairs) (suc b) zero le none = absurd (omega arith)
  skipped (p ∷ pairs) (suc b) (suc c) le none = skipped pairs b c (omega arith) (λ k ge lt is. none (suc k) (omega arith) (omega arith) is)

  pub one_more : (pairs : List (ℕ × ℕ)) (k : ℕ) → k < length pairs → first_at pairs k ≡ a → seconds_of (drop k pairs) a ≡ (slice_index_or pairs k (0, 0)).1 ∷ seconds_of (drop (suc k) pairs) a
  one_more [] k lt is = absurd (omega arith)
  one_more (p ∷ pairs) zero lt is = ap (λ t. cond t (p.1 ∷ seconds_of pairs a) (seconds_of pairs a)) (eq-eqb a p.0 (sym is))
  one_more (p ∷ pairs) (suc k) lt is = one_more pairs k (omega arith) is

  none_past : (pairs : List (ℕ × ℕ)) (k : ℕ) → length pairs ≤ k → seconds_of (drop k pairs) a ≡ []
  none_past [] zero le = refl
  none_past [] (suc k) le = refl
  none_past (p ∷ pairs) zero le = absurd (omega arith)
  none_past (p ∷ pairs) (suc k) le = none_past pairs k (omega arith)

  pub from_last : (pairs : List (ℕ × ℕ)) (r : ℕ) → IsAfterLast pairs a (length pairs) r → seconds_of (drop r pairs) a ≡ []
  from_last pairs r h = skipped pairs r (length pairs) h.within h.none ∙ none_past pairs (length pairs) (omega arith)

-- ---- the chains as they are made

module _ (count : ℕ) (pairs : List (ℕ × ℕ)) where
  after_here : (k : ℕ) → IsAfterLast pairs (first_at pairs k) (k + 1) (k + 1)
  after_here k = record { within = omega arith; at = λ j is. ap (first_at pairs) (omega arith); none = λ j ge lt is. absurd (omega arith) }

  after_other : (a k r : ℕ) → (first_at pairs k ≡ a → ⊥) → IsAfterLast pairs a k r → IsAfterLast pairs a (k + 1) r
  after_other a k r other h = record {
    within = let low = h.within in omega arith;
    at = h.at;
    none = λ j ge lt is. elim (cases_lt j k) [
      | inl before ↦ h.none j ge before is
      | inr after ↦ other (subst (λ i. first_at pairs i ≡ a) (omega arith) is)
    ];
  }

  module _ (k : ℕ) (last before : List ℕ) (low : first_at pairs k < count) (so_far : AreChained count pairs k last before) where
    abbrev first : ℕ
    first = first_at pairs k

    last_more : (a : ℕ) → a < count → IsAfterLast pairs a (k + 1) (slice_index (slice_set last first (k + 1)) a)
    last_more a lt = elim (cases_Bool (eqb a first)) [
      | inl same ↦
          let is = sym (eqb-true a first same) in
          let here : slice_index (slice_set last first (k + 1)) first ≡ k + 1 = get_or-set_same last first (k + 1) 0 (let size = so_far.one_each in omega arith) in
          subst (λ b. IsAfterLast pairs b (k + 1) (slice_index (slice_set last first (k + 1)) b)) is (subst (IsAfterLast pairs first (k + 1)) (sym here) (after_here k))
      | inr other ↦
          let differ : a ≡ first → ⊥ = eqb-false a first other in
          subst (IsAfterLast pairs a (k + 1)) (sym (get_or-set_other last first a (k + 1) 0 differ)) (after_other a k (slice_index last a) (λ is. differ (sym is)) (so_far.last_is a lt))
    ]

    before_more : (r : ℕ) → r ≡ slice_index last first → (j : ℕ) → j < k + 1 → IsAfterLast pairs (first_at pairs j) j (slice_index (before ++ r ∷ []) j)
    before_more r is j lt = elim (cases_lt j k) [
      | inl old ↦ subst (IsAfterLast pairs (first_at pairs j) j) (sym (get_or_append_left before (r ∷ []) 0 j (let all = so_far.all in omega arith))) (so_far.before_is j old)
      | inr new ↦
          let here : j ≡ k = omega arith in
          let at_end : slice_index (before ++ r ∷ []) k ≡ r = ap (λ n. slice_index (before ++ r ∷ []) n) (sym so_far.all) ∙ get_or-append_seam before r [] 0 in
          subst (λ i. IsAfterLast pairs (first_at pairs i) i (slice_index (before ++ r ∷ []) i)) (sym here)
          (subst (IsAfterLast pairs first k) (sym (at_end ∙ is)) (so_far.last_is first low))
    ]

    pub chained_more : (r : ℕ) (new_before : List ℕ) → r ≡ slice_index last first → new_before ≡ before ++ r ∷ [] → AreChained count pairs (k + 1) (slice_set last first (k + 1)) new_before
    chained_more r new_before is before_is = record {
      one_each = length-set last first (k + 1) ∙ so_far.one_each;
      all = ap length before_is ∙ length_push before r ∙ ap (λ n. n + 1) so_far.all;
      last_is = last_more;
      before_is = λ j lt. subst (λ l. IsAfterLast pairs (first_at pairs j) j (slice_index l j)) (sym before_is) (before_more r is j lt);
    }
