-- The least marked place apart from the others.
use Rattle.std.proofs.Common.{◌≡◌, ◌≢◌, ℕ, min, max, Bool, true, false, List, Option, Some, get_or, set, sym, ap, subst, ◌∙◌, inl, inr, arith}
use Rattle.std.proofs.lemmas.Bool.{cases_order}
use Rattle.std.proofs.lemmas.List.{set-get_or, set-set, set_comm}
use Rattle.agenda.specs.inner.Next.{IsBefore, with_next}

module _ (next : Option ℕ) (bits marks : List Bool) (place : ℕ) (seen : with_next next bits ≡ marks) (is : next ≡ Some place) where
  seen_is : marks ≡ set bits place true
  seen_is = sym seen ∙ ap (λ n. with_next n bits) is

  -- it is marked again
  pub marked_again : (other : ℕ) → other ≡ place → marks ≡ set marks other true
  marked_again other same =
      seen_is ∙ sym (set-set bits place true true) ∙ ap (λ ms. set ms place true) (sym seen_is) ∙ ap (λ n. set marks n true) (sym same)

  -- another is marked, and the lesser of both stands apart
  pub both_marked : (other least greatest : ℕ) (new : List Bool) → other ≢ place → least ≡ min place other → greatest ≡ max place other → new ≡ set bits greatest true → set new least true ≡ set marks other true
  both_marked other least greatest new apart low high put =
      (λ k. set (put k) (low k) true)
      ∙ (λ k. set (set bits (high k) true) (min place other) true)
      ∙ elim (cases_order place other) [
        | inl same ↦ absurd (apart (sym same))
        | inr (inl less) ↦
            let one : max place other ≡ other = omega arith in
            let two : min place other ≡ place = omega arith in
            (λ k. set (set bits (one k) true) (two k) true) ∙ set_comm bits other place true true apart
        | inr (inr more) ↦
            let one : max place other ≡ place = omega arith in
            let two : min place other ≡ other = omega arith in
            λ k. set (set bits (one k) true) (two k) true
      ]
      ∙ ap (λ ms. set ms other true) (sym seen_is)

  -- it is taken
  pub next_taken : IsBefore next bits → bits ≡ set marks place false
  next_taken before =
      let unmarked : get_or bits place false ≡ false = (subst (λ n. IsBefore n bits) is before).1 place (omega arith) in
      sym (set-get_or bits place false) ∙ ap (set bits place) unmarked ∙ sym (set-set bits place true false) ∙ ap (λ ms. set ms place false) (sym seen_is)
