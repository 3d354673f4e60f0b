-- The numbers below a bound for which a test holds, one number more.
use Rattle.std.proofs.Common.{◌≡◌, ℕ, zero, suc, ◌+◌, Bool, true, false, cond, List, [], ◌∷◌, ◌++◌, refl, sym, ap, ◌∙◌, inl, inr, append_assoc, append-nil, arith}
use Rattle.std.proofs.lemmas.Bool.{cases_Bool}
use Rattle.std.proofs.lemmas.Grind.{flat_map-append}
use Rattle.std.proofs.lemmas.List.Elements.{filter-append}
use Rattle.std.specs.Prelude.{if◌then◌else◌}
use Rattle.std.specs.List.{filter, flat_map, range_with_len}

pub range_more : (a n : ℕ) → range_with_len a (suc n) ≡ range_with_len a n ++ (a + n) ∷ []
range_more a zero = let same : a ≡ a + 0 = omega arith in ap (λ m. m ∷ []) same
range_more a (suc n) =
    let same : (a + 1) + n ≡ a + suc n = omega arith in
    ap (λ l. a ∷ l) (range_more (a + 1) n ∙ ap (λ m. range_with_len (a + 1) n ++ m ∷ []) same)

module _ (P : ℕ → Bool) where
  numbers_more : (n : ℕ) (last : List ℕ) → filter P (n ∷ []) ≡ last → filter P (range_with_len 0 (n + 1)) ≡ filter P (range_with_len 0 n) ++ last
  numbers_more n last is =
      let next : n + 1 ≡ suc n = omega arith in
      let low : 0 + n ≡ n = omega arith in
      ap (λ m. filter P (range_with_len 0 m)) next
      ∙ ap (filter P) (range_more 0 n ∙ ap (λ m. range_with_len 0 n ++ m ∷ []) low)
      ∙ filter-append P (range_with_len 0 n) (n ∷ [])
      ∙ ap (λ l. filter P (range_with_len 0 n) ++ l) is

  pub numbers_with : (n : ℕ) → P n ≡ true → filter P (range_with_len 0 (n + 1)) ≡ filter P (range_with_len 0 n) ++ n ∷ []
  numbers_with n holds = numbers_more n (n ∷ []) (ap (λ b. cond b (n ∷ []) []) holds)

  pub numbers_without : (n : ℕ) → P n ≡ false → filter P (range_with_len 0 (n + 1)) ≡ filter P (range_with_len 0 n)
  numbers_without n fails = numbers_more n [] (ap (λ b. cond b (n ∷ []) []) fails) ∙ append-nil (filter P (range_with_len 0 n))

  -- the text of these numbers, one number more
  pub text_more : (f : ℕ → List ℕ) (n id : ℕ) (start old new : List ℕ) → id ≡ n → old ≡ start ++ flat_map f (filter P (range_with_len 0 n)) → new ≡ old ++ (if P id then f id else []) → new ≡ start ++ flat_map f (filter P (range_with_len 0 (n + 1)))
  text_more f n id start old new same was is =
      let so_far = flat_map f (filter P (range_with_len 0 n)) in
      let whole : new ≡ start ++ (so_far ++ (if P n then f n else [])) = is ∙ (λ k. was k ++ (if P (same k) then f (same k) else [])) ∙ append_assoc start so_far (if P n then f n else []) in
      elim (cases_Bool (P n)) [
        | inl holds ↦
            whole
            ∙ ap (λ b. start ++ (so_far ++ (if b then f n else []))) holds
            ∙ ap (λ t. start ++ (so_far ++ t)) (sym (append-nil (f n)))
            ∙ ap (λ t. start ++ t) (sym (flat_map-append f (filter P (range_with_len 0 n)) (n ∷ [])))
            ∙ ap (λ l. start ++ flat_map f l) (sym (numbers_with n holds))
        | inr fails ↦
            whole
            ∙ ap (λ b. start ++ (so_far ++ (if b then f n else []))) fails
            ∙ ap (λ t. start ++ t) (append-nil so_far)
            ∙ ap (λ l. start ++ flat_map f l) (sym (numbers_without n fails))
      ]
