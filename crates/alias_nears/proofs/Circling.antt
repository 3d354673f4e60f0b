-- Marking the seconds of the pairs with one first that lead around an update, by the chain of these pairs.
use Rattle.std.proofs.Common.{◌≡◌, ◌==◌, ◌||◌, ◌⊎◌, ℕ, suc, ◌<◌, ◌≤◌, true, false, List, [], ◌∷◌, ◌++◌, length, get_or, sym, ap, subst, ◌∙◌, inl, inr, arith}
use Rattle.std.specs.Prelude.{IsTrue, slice_index_or}
use Rattle.std.proofs.lemmas.Bool.{cases_lt, cases_eq, or_cases, or_left, or_right, eq-eqb, eqb-true, false≢true}
use Rattle.std.proofs.lemmas.List.{get_or_read}
use Rattle.std.proofs.lemmas.List.Folds.{list_any-append}
use Rattle.flat_core.specs.declared.reach.Marks.{Marks}
use Rattle.flat_core.specs.inner.Marks.{Marked}
use Rattle.flat_core.specs.Members.{is_in}
use Rattle.flat_core.specs.System.{System}
use Rattle.flat_core.proofs.MarkLemmas.{marked_none, marked_then}
use Rattle.alias_nears.specs.inner.Contents.{LeadsAround, IsSecondAround, IsPairAround}
use Rattle.alias_paths.specs.inner.Search.{first_at, IsAfterLast, MarkedAll}
use Rattle.alias_paths.proofs.Adding.{read_again}

module _ (s : System) (y : ℕ) where
  -- ---- one pair

  pub none_marked : (a b : ℕ) (m : Marks) → (LeadsAround s y a b → ⊥) → MarkedAll (IsSecondAround s y a b) m m
  none_marked a b m none = record { numbers = []; each = λ x. ((λ h. absurd (false≢true h)), (λ p. absurd (none p.leads))); marked = marked_none m }

  pub one_marked : (a b : ℕ) (m n : Marks) → LeadsAround s y a b → Marked (b ∷ []) m n → MarkedAll (IsSecondAround s y a b) m n
  one_marked a b m n leads h = record {
    numbers = b ∷ [];
    each = λ x. (
      (λ t. elim (or_cases (b == x) false t) [
        | inl here ↦ record { is = sym (eqb-true b x here); leads = leads }
        | inr none ↦ absurd (false≢true none)
      ]),
      (λ p. or_left (b == x) false (eq-eqb b x (sym p.is))),
    );
    marked = h;
  }

  -- ---- the pairs from a place on

  module _ (pairs : List (ℕ × ℕ)) (number : ℕ) where
    pub record IsAroundFrom (from x : ℕ) : Type 0 where
      pub place : ℕ
      pub high : from ≤ place
      pub low : place < length pairs
      pub is : slice_index_or pairs place (0, 0) ≡ (number, x)
      pub leads : LeadsAround s y number x

    pub around_none : (r : ℕ) (m : Marks) → IsAfterLast pairs number (length pairs) r → MarkedAll (IsAroundFrom r) m m
    around_none r m after = record {
      numbers = [];
      each = λ x. ((λ h. absurd (false≢true h)), (λ a. absurd (after.none a.place a.high a.low (ap (λ (p : ℕ × ℕ). p.0) a.is))));
      marked = marked_none m;
    }

    -- the pair before, and on to the one before that
    pub around_more : (k r x : ℕ) (m n o : Marks) → k < length pairs → first_at pairs k ≡ number → x ≡ (slice_index_or pairs k (0, 0)).1 → IsAfterLast pairs number k r → MarkedAll (IsAroundFrom (suc k)) m n → MarkedAll (IsSecondAround s y number x) n o → MarkedAll (IsAroundFrom r) m o
    around_more k r x m n o lt first second after before more = record {
      numbers = before.numbers ++ more.numbers;
      each = λ z. ((λ h. to z (or_cases (is_in before.numbers z) (is_in more.numbers z) (sym (joined z) ∙ h))), (λ a. joined z ∙ from z a));
      marked = marked_then before.numbers more.numbers m n o before.marked more.marked;
    }
      where
        joined : (z : ℕ) → is_in (before.numbers ++ more.numbers) z ≡ (is_in before.numbers z || is_in more.numbers z)
        joined z = list_any-append (λ j. j == z) before.numbers more.numbers

        here : slice_index_or pairs k (0, 0) ≡ (number, x)
        here = λ i. (first i, sym second i)

        to : (z : ℕ) → IsTrue (is_in before.numbers z) ⊎ IsTrue (is_in more.numbers z) → IsAroundFrom r z
        to z (inl old) =
            let a = (before.each z).0 old in
            let within = after.within in
            let high = a.high in
            record { place = a.place; high = omega arith; low = a.low; is = a.is; leads = a.leads }
        to z (inr new) =
            let p = (more.each z).0 new in
            record { place = k; high = after.within; low = lt; is = here ∙ ap (λ w. (number, w)) (sym p.is); leads = subst (LeadsAround s y number) (sym p.is) p.leads }

        from : (z : ℕ) → IsAroundFrom r z → (is_in before.numbers z || is_in more.numbers z) ≡ true
        from z a = elim (cases_lt a.place k) [
          | inl less ↦ absurd (after.none a.place a.high less (ap (λ (p : ℕ × ℕ). p.0) a.is))
          | inr not_less ↦
              elim (cases_eq a.place k) [
                | inl one ↦
                    let same : z ≡ x = ap (λ (p : ℕ × ℕ). p.1) (sym a.is ∙ ap (λ j. slice_index_or pairs j (0, 0)) one ∙ here) in
                    or_right (is_in before.numbers z) (is_in more.numbers z) ((more.each z).1 (record { is = same; leads = subst (LeadsAround s y number) same a.leads }))
                | inr other ↦
                    or_left (is_in before.numbers z) (is_in more.numbers z) ((before.each z).1 (record { place = a.place; high = omega arith; low = a.low; is = a.is; leads = a.leads }))
              ]
        ]

    -- from the first place on these are all
    pub around_all : (m n : Marks) → MarkedAll (IsAroundFrom 0) m n → MarkedAll (IsPairAround s y pairs number) m n
    around_all m n h = record {
      numbers = h.numbers;
      each = λ x. (
        (λ t.
            let a = (h.each x).0 t in
            record { among = (a.place, a.low, sym (sym a.is ∙ read_again pairs a.place (0, 0) a.low ∙ ap (get_or pairs a.place) a.is)); leads = a.leads }),
        (λ p.
            let c = p.among in
            (h.each x).1 (record { place = c.0; high = omega arith; low = c.1; is = sym (get_or_read pairs c.0 (number, x) c.1 (sym c.2) (0, 0)); leads = p.leads })),
      );
      marked = h.marked;
    }
