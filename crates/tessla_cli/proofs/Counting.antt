-- How many of the first numbers pass a test, one number more.
use Rattle.std.proofs.Common.{◌≡◌, ℕ, ◌+◌, ◌≤◌, ◌∷◌, [], Bool, true, false, length, sym, ap, ◌∙◌, arith, length-append}
use Rattle.std.specs.List.{filter, range_with_len}
use Rattle.program_text.proofs.Numbers.{numbers_with, numbers_without}

module _ (P : ℕ → Bool) where
  -- the numbers below n that pass
  abbrev pub counted : ℕ → ℕ
  counted n = length (filter P (range_with_len 0 n))

  abbrev pub Counts : ℕ → ℕ → Type 0
  Counts count n = (count ≡ counted n) × (count ≤ n)

  pub counted_with : (n id before after : ℕ) → id ≡ n → P id ≡ true → after ≡ before + 1 → Counts before n → Counts after (n + 1)
  counted_with n id before after same holds more was =
      let low = was.1 in (
        more ∙ ap (λ (k : ℕ). k + 1) was.0
            ∙ sym (ap length (numbers_with P n (ap P (sym same) ∙ holds)) ∙ length-append (filter P (range_with_len 0 n)) (n ∷ [])),
        omega arith,
      )

  pub counted_without : (n id before after : ℕ) → id ≡ n → P id ≡ false → after ≡ before → Counts before n → Counts after (n + 1)
  counted_without n id before after same fails kept was =
      let low = was.1 in (
        kept ∙ was.0 ∙ sym (ap length (numbers_without P n (ap P (sym same) ∙ fails))),
        omega arith,
      )
