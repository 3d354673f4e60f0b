-- Counting the numbers that pass a test.
use Rattle.std.proofs.Common.{◌≡◌, ℕ, ◌+◌, Bool, true, false, length, sym, ap, ◌∙◌, arith}
use Rattle.std.specs.List.{filter, range_with_len}
use Rattle.std.proofs.lemmas.List.{length_push}
use Rattle.program_text.proofs.Numbers.{numbers_with, numbers_without}

module _ (p : ℕ → Bool) (n count : ℕ) where
  pub counted_with : p n ≡ true → count ≡ length (filter p (range_with_len 0 n)) → count + 1 ≡ length (filter p (range_with_len 0 (n + 1)))
  counted_with holds so_far =
      let more = ap length (numbers_with p n holds) in
      let one = length_push (filter p (range_with_len 0 n)) n in
      omega (arith, more, one, so_far)

  pub counted_without : p n ≡ false → count ≡ length (filter p (range_with_len 0 n)) → count ≡ length (filter p (range_with_len 0 (n + 1)))
  counted_without fails so_far = so_far ∙ ap length (sym (numbers_without p n fails))
