-- Items that are read one after the other, as a loop does: what was read so far, before all that is left.
use Rattle.std.proofs.Common.{◌≡◌, List, [], ◌∷◌, Some, None, refl, sym, ap, ◌∙◌}
use Rattle.token_reader.specs.inner.Reader.{Signs, Refusal, Outcome, Read, Stopped, Reader, Lister, give, and_then, ◌>>=◌, looped, many, with_list}
use Rattle.token_reader.proofs.LocalLaws.{IsLocalTurn}
use Rattle.token_reader.proofs.ManyLaws.{many_again, many_none}

module _ {T : Type 0} (s : Signs T) {A L : Type 0} (l : Lister T A L) (local : (t : T) → IsLocalTurn s (l.turn t)) where
  again : (ts : List T) (t : T) (rest : List T) → ts ≡ t ∷ rest → many l ts ≡ looped l (many l) (l.turn t) t rest
  again ts t rest e = ap (many l) e ∙ many_again s l local t rest

  with_more : (before after : L → L) (a : A) → ((us : L) → after us ≡ before (l.more a us)) → (o : Outcome T L) → with_list after o ≡ with_list before (and_then o (λ us. give (l.more a us)))
  with_more before after a same (Read us rest) = ap (λ x. Read x rest) (same us)
  with_more before after a same (Stopped r rest) = refl

  module _ (before : L → L) (ts : List T) (t : T) (rest : List T) (total : Outcome T L) (e : ts ≡ t ∷ rest) (so_far : with_list before (many l ts) ≡ total) where
    pub loop_passes : (after : L → L) (p : Reader T A) (a : A) (left : List T) → ((us : L) → after us ≡ before (l.more a us)) → l.turn t ≡ Some p → p rest ≡ Read a left → with_list after (many l left) ≡ total
    loop_passes after p a left same is reads =
        with_more before after a same (many l left)
        ∙ sym (ap (with_list before) (again ts t rest e ∙ (λ k. looped l (many l) (is k) t rest) ∙ ap (λ q. and_then q (λ a. many l >>= λ us. give (l.more a us))) reads))
        ∙ so_far

    pub loop_fails : (p : Reader T A) (r : Refusal) (left : List T) → l.turn t ≡ Some p → p rest ≡ Stopped r left → total ≡ Stopped r left
    loop_fails p r left is stops = sym so_far ∙ ap (with_list before) (again ts t rest e ∙ (λ k. looped l (many l) (is k) t rest) ∙ ap (λ q. and_then q (λ a. many l >>= λ us. give (l.more a us))) stops)

    pub loop_ends : l.turn t ≡ None → total ≡ Read (before l.none) ts
    loop_ends is = sym so_far ∙ ap (with_list before) (again ts t rest e ∙ (λ k. looped l (many l) (is k) t rest) ∙ ap (Read l.none) (sym e))

  pub loop_empty : (before : L → L) (ts : List T) (total : Outcome T L) → ts ≡ [] → with_list before (many l ts) ≡ total → total ≡ Read (before l.none) ts
  loop_empty before ts total e so_far = sym so_far ∙ ap (with_list before) (ap (many l) e ∙ many_none s l local ∙ ap (Read l.none) (sym e))
