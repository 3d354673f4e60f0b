-- Sums over the running updates with the first numbers, one number more.
use Rattle.std.proofs.Common.{◌≡◌, ℕ, ◌+◌, ◌-◌, ◌^◌, Bool, true, false, List, [], ◌∷◌, min, refl, sym, ap, ◌∙◌, arith, inl, inr}
use Rattle.std.proofs.lemmas.Bool.{cases_Bool}
use Rattle.std.specs.Prelude.{IsTrue, if◌then◌else◌}
use Rattle.std.specs.List.{filter, range_with_len, sum_by}
use Rattle.std.proofs.lemmas.List.Sums.{sum_by_push, sum_by-cons}
use Rattle.flat_core.specs.System.{System}
use Rattle.flat_core.specs.Updates.{is_running_update}
use Rattle.program_text.proofs.Numbers.{numbers_with, numbers_without}
use Rattle.trace_bench.specs.Ran.{up_to_most}

module _ (s : System) (amount : ℕ → ℕ) where
  -- over those with numbers below n
  abbrev pub sum_below : ℕ → ℕ
  sum_below n = sum_by amount (filter (is_running_update s) (range_with_len 0 n))

  pub sum_with : (n id before after : ℕ) → id ≡ n → is_running_update s id ≡ true → after ≡ min (before + amount id) (2 ^ 64 - 1) → before ≡ up_to_most (sum_below n) → after ≡ up_to_most (sum_below (n + 1))
  sum_with n id before after same holds more was =
      let here : amount id ≡ amount n = ap amount same in
      let next : sum_below (n + 1) ≡ sum_below n + amount n = ap (sum_by amount) (numbers_with (is_running_update s) n (ap (is_running_update s) (sym same) ∙ holds)) ∙ sum_by_push amount (filter (is_running_update s) (range_with_len 0 n)) n in
      omega arith

  pub sum_without : (n id before after : ℕ) → id ≡ n → is_running_update s id ≡ false → after ≡ before → before ≡ up_to_most (sum_below n) → after ≡ up_to_most (sum_below (n + 1))
  sum_without n id before after same fails kept was =
      kept ∙ was ∙ ap (λ l. up_to_most (sum_by amount l)) (sym (numbers_without (is_running_update s) n (ap (is_running_update s) (sym same) ∙ fails)))

-- sums of what is the same for all that pass
pub sums_same : (P : ℕ → Bool) (f g : ℕ → ℕ) → ((u : ℕ) → IsTrue (P u) → f u ≡ g u) → (xs : List ℕ) → sum_by f (filter P xs) ≡ sum_by g (filter P xs)
sums_same P f g same [] = refl
sums_same P f g same (x ∷ xs) = elim (cases_Bool (P x)) [
  | inl passes ↦
      (λ k. sum_by f (if passes k then x ∷ filter P xs else filter P xs)) ∙ sum_by-cons f x (filter P xs) ∙ (λ k. same x passes k + sums_same P f g same xs k)
      ∙ sym (sum_by-cons g x (filter P xs)) ∙ sym (λ k. sum_by g (if passes k then x ∷ filter P xs else filter P xs))
  | inr fails ↦ (λ k. sum_by f (if fails k then x ∷ filter P xs else filter P xs)) ∙ sums_same P f g same xs ∙ sym (λ k. sum_by g (if fails k then x ∷ filter P xs else filter P xs))
]
