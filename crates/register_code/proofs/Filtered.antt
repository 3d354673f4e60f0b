-- Lists of which some items are kept, and where items stand in them.
use Rattle.std.proofs.Common.{◌≡◌, ℕ, suc, ◌<◌, Bool, true, List, [], ◌∷◌, ◌++◌, length, Contains, Some, refl, sym, ap, ◌∙◌, inl, inr, arith}
use Rattle.std.proofs.lemmas.Bool.{cases_Bool}
use Rattle.std.proofs.lemmas.List.Elements.{filter-append}
use Rattle.std.specs.Prelude.{slice_get}
use Rattle.std.specs.List.{filter}
use Rattle.tsl_value.proofs.Lists.{none_in_nil, cons_cases, get_seam, with_first, without_first, kept_in}
use Rattle.alias_rules.specs.Steps.{Precedes}

found_before : (front rest : List ℕ) (a : ℕ) → Contains front a → (k : ℕ) × (k < length front) × (slice_get (front ++ rest) k ≡ Some a)
found_before [] rest a c = absurd (none_in_nil a c)
found_before (y ∷ front) rest a c = elim (cons_cases y a front c) [
  | inl same ↦ (0, omega arith, ap Some same)
  | inr tail ↦ let found = found_before front rest a tail in (suc found.0, (let lt = found.1 in omega arith), found.2)
]

module _ (p : ℕ → Bool) where
  -- what stands in front of an item that is kept still does, where it is kept
  pub filter_precedes : (all front rest : List ℕ) (a b : ℕ) → p a ≡ true → p b ≡ true → all ≡ front ++ b ∷ rest → Contains front a → Precedes (filter p all) a b
  filter_precedes all front rest a b a_kept b_kept is c =
      let cut : filter p all ≡ filter p front ++ b ∷ filter p rest = ap (filter p) is ∙ filter-append p front (b ∷ rest) ∙ ap (λ l. filter p front ++ l) (with_first p b rest b_kept) in
      let found = found_before (filter p front) (b ∷ filter p rest) a (kept_in p front a c a_kept) in
      record {
        first = found.0;
        second = length (filter p front);
        first_is = ap (λ l. slice_get l found.0) cut ∙ found.2;
        second_is = ap (λ l. slice_get l (length (filter p front))) cut ∙ get_seam (filter p front) b (filter p rest);
        is_before = found.1;
      }

  -- a split of what is kept is one of all
  pub filter_split : (all front rest : List ℕ) (x : ℕ) → filter p all ≡ front ++ x ∷ rest → (before : List ℕ) × (after : List ℕ) × (all ≡ before ++ x ∷ after) × (filter p before ≡ front)
  filter_split [] [] rest x is = absurd (cc)
  filter_split [] (f ∷ front) rest x is = absurd (cc)
  filter_split (y ∷ ys) [] rest x is = elim (cases_Bool (p y)) [
    | inl passes ↦
        let whole : y ∷ filter p ys ≡ x ∷ rest = sym (with_first p y ys passes) ∙ is in
        let same : y ≡ x = cc in
        ([], ys, ap (λ z. z ∷ ys) same, refl)
    | inr fails ↦
        let parts = filter_split ys [] rest x (sym (without_first p y ys fails) ∙ is) in
        (y ∷ parts.0, parts.1, ap (λ l. y ∷ l) parts.2, without_first p y parts.0 fails ∙ parts.3)
  ]
  filter_split (y ∷ ys) (f ∷ front) rest x is = elim (cases_Bool (p y)) [
    | inl passes ↦
        let whole : y ∷ filter p ys ≡ f ∷ (front ++ x ∷ rest) = sym (with_first p y ys passes) ∙ is in
        let same : y ≡ f = cc in
        let tail : filter p ys ≡ front ++ x ∷ rest = cc in
        let parts = filter_split ys front rest x tail in
        (y ∷ parts.0, parts.1, ap (λ l. y ∷ l) parts.2, with_first p y parts.0 passes ∙ (λ k. same k ∷ parts.3 k))
    | inr fails ↦
        let parts = filter_split ys (f ∷ front) rest x (sym (without_first p y ys fails) ∙ is) in
        (y ∷ parts.0, parts.1, ap (λ l. y ∷ l) parts.2, without_first p y parts.0 fails ∙ parts.3)
  ]
