-- Numbers, each where it comes first.
use Rattle.std.proofs.Common.{◌≡◌, ◌==◌, ℕ, Bool, true, false, ◌||◌, not, List, [], ◌∷◌, ◌++◌, refl, sym, ap, ◌∙◌, append_assoc, append-nil, inl, inr}
use Rattle.std.proofs.lemmas.Bool.{cases_Bool, eqb-true, eqb-false, ne_eqb, eq-eqb, or_right}
use Rattle.std.proofs.lemmas.List.Elements.{filter-append}
use Rattle.std.specs.Prelude.{if◌then◌else◌}
use Rattle.std.specs.List.{filter}
use Rattle.tsl_value.proofs.Lists.{with_first, without_first}
use Rattle.flat_core.specs.Members.{is_in}
use Rattle.monitor_state.specs.Firsts.{firsts}
use Rattle.monitor_run.specs.inner.Taking.{firsts_with, firsts_on}

abbrev is_other : ℕ → ℕ → Bool
is_other y z = not (z == y)

-- a list without y
abbrev others : ℕ → List ℕ → List ℕ
others y xs = filter (is_other y) xs

turned : (y x : ℕ) → (y == x) ≡ false → (x == y) ≡ false
turned y x apart = ne_eqb x y (λ same. eqb-false y x apart (sym same))

in_others : (y x : ℕ) → (y == x) ≡ false → (xs : List ℕ) → is_in (others y xs) x ≡ is_in xs x
in_others y x apart [] = refl
in_others y x apart (z ∷ zs) = elim (cases_Bool (z == y)) [
  | inl same ↦
      ap (λ l. is_in l x) (without_first (is_other y) z zs (ap not same))
      ∙ in_others y x apart zs
      ∙ ap (λ b. b || is_in zs x) (sym (ap (λ w. w == x) (eqb-true z y same) ∙ apart))
  | inr other ↦ ap (λ l. is_in l x) (with_first (is_other y) z zs (ap not other)) ∙ ap (λ b. (z == x) || b) (in_others y x apart zs)
]

others_push : (y x : ℕ) (xs : List ℕ) → (y == x) ≡ false → others y (xs ++ x ∷ []) ≡ others y xs ++ x ∷ []
others_push y x xs apart =
    filter-append (is_other y) xs (x ∷ []) ∙ ap (λ l. others y xs ++ l) (with_first (is_other y) x [] (ap not (turned y x apart)))

others_same : (y x : ℕ) (xs : List ℕ) → (y == x) ≡ true → others y (xs ++ x ∷ []) ≡ others y xs
others_same y x xs same =
    filter-append (is_other y) xs (x ∷ [])
    ∙ ap (λ l. others y xs ++ l) (without_first (is_other y) x [] (ap not (eq-eqb x y (sym (eqb-true y x same)))))
    ∙ append-nil (others y xs)

is_pushed : (xs : List ℕ) (x : ℕ) (b : Bool) → is_in xs x ≡ b → firsts_with xs x ≡ (if b then xs else xs ++ x ∷ [])
is_pushed xs x b is = λ k. if is k then xs else xs ++ x ∷ []

-- a number that comes last, where y comes first
with_push : (y x : ℕ) (xs : List ℕ) → y ∷ others y (firsts_with xs x) ≡ firsts_with (y ∷ others y xs) x
with_push y x xs = elim (cases_Bool (y == x)) [
  | inl same ↦ elim (cases_Bool (is_in xs x)) [
    | inl listed ↦
        ap (λ l. y ∷ others y l) (is_pushed xs x true listed)
        ∙ sym (is_pushed (y ∷ others y xs) x true (ap (λ b. b || is_in (others y xs) x) same))
    | inr new ↦
        ap (λ l. y ∷ others y l) (is_pushed xs x false new)
        ∙ ap (λ l. y ∷ l) (others_same y x xs same)
        ∙ sym (is_pushed (y ∷ others y xs) x true (ap (λ b. b || is_in (others y xs) x) same))
  ]
  | inr apart ↦ elim (cases_Bool (is_in xs x)) [
    | inl listed ↦
        ap (λ l. y ∷ others y l) (is_pushed xs x true listed)
        ∙ sym (is_pushed (y ∷ others y xs) x true (or_right (y == x) (is_in (others y xs) x) (in_others y x apart xs ∙ listed)))
    | inr new ↦
        ap (λ l. y ∷ others y l) (is_pushed xs x false new)
        ∙ ap (λ l. y ∷ l) (others_push y x xs apart)
        ∙ sym (is_pushed (y ∷ others y xs) x false (ap (λ b. b || is_in (others y xs) x) apart ∙ in_others y x apart xs ∙ new))
  ]
]

pub firsts_push : (xs : List ℕ) (x : ℕ) → firsts (xs ++ x ∷ []) ≡ firsts_with (firsts xs) x
firsts_push [] x = refl
firsts_push (y ∷ xs) x = ap (λ l. y ∷ others y l) (firsts_push xs x) ∙ with_push y x (firsts xs)

firsts_more : (done rest : List ℕ) → firsts_on (firsts done) rest ≡ firsts (done ++ rest)
firsts_more done [] = ap firsts (sym (append-nil done))
firsts_more done (x ∷ rest) =
    ap (λ l. firsts_on l rest) (sym (firsts_push done x))
    ∙ firsts_more (done ++ x ∷ []) rest
    ∙ ap firsts (append_assoc done (x ∷ []) rest)

pub firsts_all : (xs : List ℕ) → firsts_on [] xs ≡ firsts xs
firsts_all xs = firsts_more [] xs
