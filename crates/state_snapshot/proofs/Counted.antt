-- How many of the first numbers pass a test.
use Rattle.std.proofs.Common.{◌≡◌, ℕ, zero, suc, ◌+◌, ◌≤◌, Bool, true, false, cond, [], ◌∷◌, ◌++◌, length, sym, ap, ◌∙◌, arith}
use Rattle.std.specs.List.{filter, range_with_len}
use Rattle.std.proofs.lemmas.List.{length-append}
use Rattle.std.proofs.lemmas.List.Elements.{filter-append}
use Rattle.std.proofs.lemmas.List.FromFn.{length-range_with_len}
use Rattle.std.proofs.lemmas.List.Sums.{count_by-le-length, length-filter}

range_last : (a n j : ℕ) → a + n ≡ j → range_with_len a (suc n) ≡ range_with_len a n ++ j ∷ []
range_last a zero j e = let same : a ≡ j = omega (arith, e) in ap (λ x. x ∷ []) same
range_last a (suc n) j e = ap (λ l. a ∷ l) (range_last (a + 1) n j (omega (arith, e)))

module _ (p : ℕ → Bool) (n k : ℕ) (is : k ≡ length (filter p (range_with_len 0 n))) where
  -- at most as many as there are
  pub few_counted : k ≤ n
  few_counted = omega (arith, is, length-filter p (range_with_len 0 n), count_by-le-length p (range_with_len 0 n), length-range_with_len 0 n)

  one_counted : (b : Bool) → p n ≡ b → length (filter p (n ∷ [])) ≡ cond b 1 0
  one_counted true yes_p = ap (λ t. length (cond t (n ∷ []) [])) yes_p
  one_counted false no_p = ap (λ t. length (cond t (n ∷ []) [])) no_p

  pub counted_more : (b : Bool) (one : ℕ) → b ≡ p n → one ≡ cond b 1 0 → k + one ≡ length (filter p (range_with_len 0 (n + 1)))
  counted_more b one test is_one =
      let first = range_with_len 0 n in
      let next : n + 1 ≡ suc n = omega arith in
      let grown = ap (λ m. filter p (range_with_len 0 m)) next ∙ ap (filter p) (range_last 0 n n (omega arith)) ∙ filter-append p first (n ∷ []) in
      let long = ap length grown in
      omega (arith, is, is_one, long, length-append (filter p first) (filter p (n ∷ [])), one_counted b (sym test))

pub one_at_most : (b : Bool) → cond b 1 0 ≤ 1
one_at_most true = omega arith
one_at_most false = omega arith
