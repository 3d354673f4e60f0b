-- Marking along edges, step by step.
use Rattle.std.proofs.Common.{◌≡◌, ◌==◌, ◌||◌, ◌&&◌, not, ℕ, true, false, List, [], ◌∷◌, ◌++◌, length, refl, sym, ap, subst, ◌∙◌, inl, inr}
use Rattle.std.specs.Prelude.{IsTrue}
use Rattle.std.proofs.lemmas.Bool.{or_cases, or_left, or_right, or_parts, and_parts, cases_Bool, false≢true, eqb-true, eq-eqb}
use Rattle.std.proofs.Math.Bool.{or-false}
use Rattle.std.proofs.lemmas.List.Folds.{list_any-append}
use Rattle.flat_core.specs.declared.reach.Marks.{Marks}
use Rattle.translation_order.specs.Graph.{stay}
use Rattle.flat_core.specs.inner.Marks.{has_mark, is_marked, is_waiting, Marked, IsReachedAlong, Spread, Spreading}
use Rattle.flat_core.specs.Members.{is_in}
use Rattle.translation_order.proofs.PathLemmas.{walk_on}

module _ (E : ℕ → ℕ → Type 0) where
  pub spreading_none : (m : Marks) → ((i : ℕ) → is_marked m i ≡ is_waiting m i) → Spreading E m m
  spreading_none m same = record {
    one_each = refl;
    kept = λ i h. h;
    from = λ i h. record { start = i; is_start = h; walk = stay };
    waiting = λ i h. same i ∙ h;
    closed = λ i h idle. absurd (false≢true (sym idle ∙ sym (same i) ∙ h));
  }

  -- what follows on a number that waited is marked, and it waits no longer
  module _ (m n p o : Marks) (id : ℕ) (next : List ℕ) (so_far : Spreading E m n) (same : p.marked.items ≡ n.marked.items) (taken : n.waiting.items ≡ p.waiting.items ++ (id ∷ [])) (to : (a : ℕ) → IsTrue (is_in next a) → E id a) (from : (a : ℕ) → E id a → IsTrue (is_in next a)) (more : Marked next p o) where
    waits_in : (i : ℕ) → is_waiting n i ≡ (is_waiting p i || ((id == i) || false))
    waits_in i = ap (λ xs. is_in xs i) taken ∙ list_any-append (λ j. j == i) p.waiting.items (id ∷ [])

    marks_in : (i : ℕ) → is_marked o i ≡ (is_in next i || is_marked n i)
    marks_in i = more.marks i ∙ ap (λ bs. is_in next i || has_mark bs i) same

    on : (i : ℕ) → is_marked n i ≡ true → is_marked o i ≡ true
    on i h = marks_in i ∙ or_right (is_in next i) (is_marked n i) h

    follows : (i : ℕ) → is_in next i ≡ true → is_marked o i ≡ true
    follows i h = marks_in i ∙ or_left (is_in next i) (is_marked n i) h

    id_marked : is_marked n id ≡ true
    id_marked = so_far.waiting id (waits_in id ∙ or_right (is_waiting p id) ((id == id) || false) (or_left (id == id) false (eq-eqb id id refl)))

    from_one : (i : ℕ) → is_marked o i ≡ true → IsReachedAlong E m.marked.items i
    from_one i h = elim (or_cases (is_in next i) (is_marked n i) (sym (marks_in i) ∙ h)) [
      | inl there ↦ let found = so_far.from id id_marked in record { start = found.start; is_start = found.is_start; walk = walk_on found.walk (to i there) }
      | inr before ↦ so_far.from i before
    ]

    waiting_one : (i : ℕ) → is_waiting o i ≡ true → is_marked o i ≡ true
    waiting_one i h = elim (or_cases (is_waiting p i) (is_in next i && not (is_marked p i)) (sym (more.waits i) ∙ h)) [
      | inl old ↦ on i (so_far.waiting i (waits_in i ∙ or_left (is_waiting p i) ((id == i) || false) old))
      | inr new ↦ follows i (and_parts (is_in next i) (not (is_marked p i)) new).0
    ]

    closed_at : (i : ℕ) → is_marked n i ≡ true → is_waiting p i ≡ false → (a : ℕ) → E i a → is_marked o a ≡ true
    closed_at i h idle a e = elim (cases_Bool (id == i)) [
      | inl itself ↦ follows a (from a (subst (λ x. E x a) (sym (eqb-true id i itself)) e))
      | inr other ↦
          let idle_n : is_waiting n i ≡ false = waits_in i ∙ (λ k. idle k || (other k || false)) in
          on a (so_far.closed i h idle_n a e)
    ]

    closed_one : (i : ℕ) → is_marked o i ≡ true → is_waiting o i ≡ false → (a : ℕ) → E i a → is_marked o a ≡ true
    closed_one i h idle =
        let both : (is_waiting p i || (is_in next i && not (is_marked p i))) ≡ false = sym (more.waits i) ∙ idle in
        let idle_p = (or_parts (is_waiting p i) (is_in next i && not (is_marked p i)) both).0 in
        elim (cases_Bool (is_marked n i)) [
          | inl before ↦ closed_at i before idle_p
          | inr new ↦
              let there : is_in next i ≡ true = sym (or-false (is_in next i)) ∙ ap (λ b. is_in next i || b) (sym new) ∙ sym (marks_in i) ∙ h in
              let new_p : is_marked p i ≡ false = ap (λ bs. has_mark bs i) same ∙ new in
              let waits : (is_waiting p i || (is_in next i && not (is_marked p i))) ≡ true = or_right (is_waiting p i) (is_in next i && not (is_marked p i)) (λ k. there k && not (new_p k)) in
              absurd (false≢true (sym both ∙ waits))
        ]

    pub spreading_more : Spreading E m o
    spreading_more = record {
      one_each = more.one_each ∙ ap length same ∙ so_far.one_each;
      kept = λ i h. on i (so_far.kept i h);
      from = from_one;
      waiting = waiting_one;
      closed = closed_one;
    }

  -- once nothing waits
  pub spreading_done : (m n : Marks) → n.waiting.items ≡ [] → Spreading E m n → Spread E m n
  spreading_done m n none h = record { one_each = h.one_each; kept = h.kept; from = h.from; closed = λ i marked. h.closed i marked (ap (λ xs. is_in xs i) none) }
