-- What loops over the numbers of a system gather.
use Rattle.std.proofs.Common.{◌≡◌, ℕ, suc, ◌+◌, Bool, true, false, ◌||◌, List, [], ◌∷◌, ◌++◌, refl, sym, ap, ◌∙◌, arith}
use Rattle.std.proofs.Math.Bool.{or-false}
use Rattle.std.proofs.lemmas.Grind.{flat_map-append}
use Rattle.std.proofs.lemmas.List.{append-nil}
use Rattle.std.proofs.lemmas.List.Folds.{list_any-append}
use Rattle.std.specs.List.{filter, flat_map, list_any, range_with_len}
use Rattle.program_text.proofs.Numbers.{range_more, numbers_with, numbers_without}

next_number : (n : ℕ) → range_with_len 0 (n + 1) ≡ range_with_len 0 n ++ n ∷ []
next_number n =
    let next : n + 1 ≡ suc n = omega arith in
    let low : 0 + n ≡ n = omega arith in
    ap (range_with_len 0) next ∙ range_more 0 n ∙ ap (λ m. range_with_len 0 n ++ m ∷ []) low

or_swap : (a b : Bool) → (a || b) ≡ (b || a)
or_swap true true = refl
or_swap true false = refl
or_swap false true = refl
or_swap false false = refl

pub any_more : (p : ℕ → Bool) (n : ℕ) → list_any p (range_with_len 0 (n + 1)) ≡ (p n || list_any p (range_with_len 0 n))
any_more p n =
    ap (list_any p) (next_number n)
    ∙ list_any-append p (range_with_len 0 n) (n ∷ [])
    ∙ ap (λ b. list_any p (range_with_len 0 n) || b) (or-false (p n))
    ∙ or_swap (list_any p (range_with_len 0 n)) (p n)

pub gathered_more : {Y : Type 0} (f : ℕ → List Y) (n : ℕ) → flat_map f (range_with_len 0 (n + 1)) ≡ flat_map f (range_with_len 0 n) ++ f n
gathered_more f n =
    ap (flat_map f) (next_number n)
    ∙ flat_map-append f (range_with_len 0 n) (n ∷ [])
    ∙ ap (λ l. flat_map f (range_with_len 0 n) ++ l) (append-nil (f n))

module _ (P : ℕ → Bool) where
  pub listed_with : (n id : ℕ) (old new : List ℕ) → id ≡ n → P id ≡ true → old ≡ filter P (range_with_len 0 n) → new ≡ old ++ id ∷ [] → new ≡ filter P (range_with_len 0 (n + 1))
  listed_with n id old new same holds was is =
      is ∙ (λ k. was k ++ same k ∷ []) ∙ sym (numbers_with P n (ap P (sym same) ∙ holds))

  pub listed_without : (n id : ℕ) (old : List ℕ) → id ≡ n → P id ≡ false → old ≡ filter P (range_with_len 0 n) → old ≡ filter P (range_with_len 0 (n + 1))
  listed_without n id old same fails was = was ∙ sym (numbers_without P n (ap P (sym same) ∙ fails))
