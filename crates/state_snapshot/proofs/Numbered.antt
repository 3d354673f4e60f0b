-- Numbers that rise one by one where they come first.
use Rattle.std.proofs.Common.{◌≡◌, ◌==◌, ℕ, ◌+◌, ◌<◌, ◌≤◌, Bool, true, false, ◌&&◌, not, List, [], ◌∷◌, refl, sym, ap, ◌∙◌, nat_le, inl, inr, arith}
use Rattle.std.specs.List.{filter}
use Rattle.std.proofs.lemmas.Bool.{and_from, and_left, and_right, cases_Bool, cases_lt, eq-eqb, le-leb, leb-false, leb-true, ne_eqb}
use Rattle.tsl_value.proofs.Lists.{with_first, without_first}
use Rattle.monitor_state.specs.Firsts.{firsts}

-- the numbers from n on, each where it comes first
abbrev pub new_from : ℕ → List ℕ → List ℕ
new_from n names = filter (nat_le n) (firsts names)

-- two filters one after the other are one
filter_both : (p q r : ℕ → Bool) → ((x : ℕ) → (p x && q x) ≡ r x) → (xs : List ℕ) → filter p (filter q xs) ≡ filter r xs
filter_both p q r same [] = refl
filter_both p q r same (x ∷ xs) = elim (cases_Bool (q x)) [
  | inl taken ↦ elim (cases_Bool (p x)) [
    | inl both ↦
        ap (filter p) (with_first q x xs taken) ∙ with_first p x (filter q xs) both ∙ ap (λ l. x ∷ l) (filter_both p q r same xs)
        ∙ sym (with_first r x xs (sym (same x) ∙ and_from (p x) (q x) both taken))
    | inr left ↦
        ap (filter p) (with_first q x xs taken) ∙ without_first p x (filter q xs) left ∙ filter_both p q r same xs
        ∙ sym (without_first r x xs (sym (same x) ∙ and_left (p x) (q x) left))
  ]
  | inr left ↦
      ap (filter p) (without_first q x xs left) ∙ filter_both p q r same xs
      ∙ sym (without_first r x xs (sym (same x) ∙ and_right (p x) (q x) left))
]

abbrev pub is_other : ℕ → ℕ → Bool
is_other k x = not (x == k)

other_is : (k x : ℕ) → (x ≡ k → ⊥) → is_other k x ≡ true
other_is k x apart = ap not (ne_eqb x k apart)

-- a number below n is none from n on
pub new_same : (n k : ℕ) (names : List ℕ) → k < n → new_from n (k ∷ names) ≡ new_from n names
new_same n k names low =
    let past : nat_le n k ≡ false = elim (cases_Bool (nat_le n k)) [ inl is ↦ let no = leb-true n k is in absurd (omega (arith, no, low)) | inr is ↦ is ] in
    without_first (nat_le n) k (filter (is_other k) (firsts names)) past
    ∙ filter_both (nat_le n) (is_other k) (nat_le n) (λ x. elim (cases_Bool (nat_le n x)) [
      | inl is ↦ let high = leb-true n x is in and_from (nat_le n x) (is_other k x) is (other_is k x (λ same. omega (arith, same, high, low))) ∙ sym is
      | inr is ↦ and_left (nat_le n x) (is_other k x) is ∙ sym is
    ]) (firsts names)

-- n itself comes first, and then those above it
pub new_next : (n : ℕ) (names : List ℕ) → new_from n (n ∷ names) ≡ n ∷ new_from (n + 1) names
new_next n names =
    with_first (nat_le n) n (filter (is_other n) (firsts names)) (le-leb n n (omega arith))
    ∙ ap (λ l. n ∷ l) (filter_both (nat_le n) (is_other n) (nat_le (n + 1)) (λ x. elim (cases_Bool (nat_le (n + 1) x)) [
      | inl is ↦ let high = leb-true (n + 1) x is in and_from (nat_le n x) (is_other n x) (le-leb n x (omega (arith, high))) (other_is n x (λ same. omega (arith, same, high))) ∙ sym is
      | inr is ↦ let low = leb-false (n + 1) x is in elim (cases_lt x n) [
        | inl below ↦ and_left (nat_le n x) (is_other n x) (elim (cases_Bool (nat_le n x)) [ inl over ↦ let no = leb-true n x over in absurd (omega (arith, no, below)) | inr under ↦ under ]) ∙ sym is
        | inr at ↦ let same : x ≡ n = omega (arith, low, at) in and_right (nat_le n x) (is_other n x) (ap not (eq-eqb x n same)) ∙ sym is
      ]
    ]) (firsts names))

-- a number from n on comes first
pub new_first : (n k : ℕ) (names : List ℕ) → n ≤ k → new_from n (k ∷ names) ≡ k ∷ filter (nat_le n) (filter (is_other k) (firsts names))
new_first n k names high = with_first (nat_le n) k (filter (is_other k) (firsts names)) (le-leb n k high)

-- all are from 0 on
pub new_all : (names : List ℕ) → new_from 0 names ≡ firsts names
new_all names = all_from (firsts names) where
  all_from : (xs : List ℕ) → filter (nat_le 0) xs ≡ xs
  all_from [] = refl
  all_from (x ∷ xs) = with_first (nat_le 0) x xs (le-leb 0 x (omega arith)) ∙ ap (λ l. x ∷ l) (all_from xs)
