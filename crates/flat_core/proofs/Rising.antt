-- Ascending lists, and the part of one that is below a number.
use Rattle.std.proofs.Common.{◌≡◌, ◌==◌, ◌&&◌, ◌⊎◌, ℕ, suc, ◌+◌, ◌<◌, Bool, List, [], ◌∷◌, ◌++◌, length, get_or, refl, sym, ap, subst, ◌∙◌, inl, inr, arith}
use Rattle.std.specs.Prelude.{IsTrue}
use Rattle.std.specs.List.{AllPairs, filter}
use Rattle.std.specs.List.Sorted.{IsStrictlyIncreasing}
use Rattle.std.proofs.lemmas.Bool.{cases_lt, or_cases, or_left, or_right, eq-eqb, eqb-true, false≢true}
use Rattle.std.proofs.lemmas.List.{get_or_append_left, length_push}
use Rattle.std.proofs.lemmas.List.Elements.{Contains-get_or}
use Rattle.std.proofs.lemmas.List.Folds.{list_any-append}
use Rattle.std.proofs.lemmas.Map.Views.{any-filter_same}
use Rattle.std.proofs.Math.Seq.{get_or-append_seam}
use Rattle.flat_core.specs.Members.{is_in}
use Rattle.flat_core.proofs.Members.{Contains-in, in-Contains}

abbrev pub Rises : List ℕ → Type 0
Rises xs = AllPairs (λ x y. x < y) xs

pub head_in : (x : ℕ) (xs : List ℕ) → IsTrue (is_in (x ∷ xs) x)
head_in x xs = or_left (x == x) (is_in xs x) (eq-eqb x x refl)

pub rest_rises : (x : ℕ) (xs : List ℕ) → Rises (x ∷ xs) → Rises xs
rest_rises x xs rises i j d lt less = rises (suc i) (suc j) d (omega arith) (omega arith)

pub above : (x : ℕ) (xs : List ℕ) → Rises (x ∷ xs) → (y : ℕ) → IsTrue (is_in xs y) → x < y
above x xs rises y h =
    let found = Contains-in xs y h in
    let low = rises 0 (suc found.0) y (omega arith) (let lt = found.1 in omega arith) in
    subst (λ n. x < n) found.2 low

from_head : (y : ℕ) (ys : List ℕ) → Rises (y ∷ ys) → (x : ℕ) → IsTrue (is_in (y ∷ ys) x) → (y < x → ⊥) → y ≡ x
from_head y ys rises x h never = elim (or_cases (y == x) (is_in ys x) h) [
  | inl here ↦ eqb-true y x here
  | inr later ↦ absurd (never (above y ys rises x later))
]

in_rest : (x : ℕ) (xs ys : List ℕ) (y : ℕ) → x ≡ y → Rises (x ∷ xs) → ((i : ℕ) → IsTrue (is_in (x ∷ xs) i) → IsTrue (is_in (y ∷ ys) i)) → (i : ℕ) → IsTrue (is_in xs i) → IsTrue (is_in ys i)
in_rest x xs ys y same rises to i h =
    let low = above x xs rises i h in
    elim (or_cases (y == i) (is_in ys i) (to i (or_right (x == i) (is_in xs i) h))) [
      | inl here ↦ let is = eqb-true y i here in absurd (omega arith)
      | inr later ↦ later
    ]

-- ascending lists with the same members are one
pub same_rising : (xs ys : List ℕ) → Rises xs → Rises ys → ((i : ℕ) → IsTrue (is_in xs i) → IsTrue (is_in ys i)) → ((i : ℕ) → IsTrue (is_in ys i) → IsTrue (is_in xs i)) → xs ≡ ys
same_rising [] [] p q to from = refl
same_rising [] (y ∷ ys) p q to from = absurd (false≢true (from y (head_in y ys)))
same_rising (x ∷ xs) [] p q to from = absurd (false≢true (to x (head_in x xs)))
same_rising (x ∷ xs) (y ∷ ys) p q to from =
    let x_in = to x (head_in x xs) in
    let y_in = from y (head_in y ys) in
    let same : x ≡ y = elim (or_cases (x == y) (is_in xs y) y_in) [
      | inl here ↦ eqb-true x y here
      | inr later ↦ let low = above x xs p y later in sym (from_head y ys q x x_in (λ less. absurd (omega arith)))
    ] in
    let rest = same_rising xs ys (rest_rises x xs p) (rest_rises y ys q) (in_rest x xs ys y same p to) (in_rest y ys xs x (sym same) q from) in
    λ k. same k ∷ rest k

-- a member of the part that passes a test is a member that passes it
pub in_filter : (p : ℕ → Bool) (xs : List ℕ) (i : ℕ) → is_in (filter p xs) i ≡ (p i && is_in xs i)
in_filter p xs i = any-filter_same (λ j. j == i) p (p i) (λ k e. ap p (eqb-true k i e)) xs

-- ---- one more at the end

pub in_push : (xs : List ℕ) (y x : ℕ) → IsTrue (is_in (xs ++ y ∷ []) x) → IsTrue (is_in xs x) ⊎ (y ≡ x)
in_push xs y x h = elim (or_cases (is_in xs x) (is_in (y ∷ []) x) (sym (list_any-append (λ j. j == x) xs (y ∷ [])) ∙ h)) [
  | inl old ↦ inl old
  | inr new ↦ elim (or_cases (y == x) (is_in [] x) new) [
    | inl same ↦ inr (eqb-true y x same)
    | inr none ↦ absurd (false≢true none)
  ]
]

pub push_old : (xs : List ℕ) (y x : ℕ) → IsTrue (is_in xs x) → IsTrue (is_in (xs ++ y ∷ []) x)
push_old xs y x h = list_any-append (λ j. j == x) xs (y ∷ []) ∙ or_left (is_in xs x) (is_in (y ∷ []) x) h

pub push_new : (xs : List ℕ) (y x : ℕ) → y ≡ x → IsTrue (is_in (xs ++ y ∷ []) x)
push_new xs y x same = list_any-append (λ j. j == x) xs (y ∷ []) ∙ or_right (is_in xs x) (is_in (y ∷ []) x) (or_left (y == x) (is_in [] x) (eq-eqb y x same))

pub increasing_push : (xs : List ℕ) (y : ℕ) → IsStrictlyIncreasing xs → ((x : ℕ) → IsTrue (is_in xs x) → x < y) → IsStrictlyIncreasing (xs ++ y ∷ [])
increasing_push xs y up low k lt =
    let long = length_push xs y in
    let here = get_or_append_left xs (y ∷ []) 0 k (omega arith) in
    elim (cases_lt (k + 1) (length xs)) [
      | inl inner ↦
          let next = get_or_append_left xs (y ∷ []) 0 (k + 1) inner in
          let rises = up k inner in
          omega arith
      | inr outer ↦
          let at : k + 1 ≡ length xs = omega arith in
          let last : get_or (xs ++ y ∷ []) (k + 1) 0 ≡ y = ap (λ n. get_or (xs ++ y ∷ []) n 0) at ∙ get_or-append_seam xs y [] 0 in
          let rises = low (get_or xs k 0) (in-Contains xs (get_or xs k 0) (Contains-get_or xs k 0 (omega arith))) in
          omega arith
    ]
