-- Which steps are named, by marks.
use Rattle.std.proofs.Common.{◌≡◌, ◌||◌, ℕ, zero, suc, ◌<◌, ◌≤◌, Bool, true, false, List, [], ◌∷◌, Some, length, refl, sym, ap, ◌∙◌, drop, slice_get, slice_index_or, set, inl, inr, arith}
use Rattle.std.proofs.lemmas.Bool.{cases_eq, eq-eqb, false≢true, ne_eqb, or_cases, or_left, or_right}
use Rattle.std.proofs.lemmas.List.{get_or-set_other, get_or-set_same}
use Rattle.std.proofs.lemmas.Option.{none-some, same_Some}
use Rattle.std.specs.List.{Contains}
use Rattle.flat_core.specs.Members.{is_in}
use Rattle.flat_core.proofs.Members.{Contains-in, in-Contains}
use Rattle.event_why.specs.declared.fact.WhyStep.{WhyStep}
use Rattle.event_why.specs.Check.{IsUsed}
use Rattle.event_why.specs.inner.Used.{NamesEarlier, is_named}

-- ---- marks

or_true : (b : Bool) → (b || true) ≡ true
or_true true = refl
or_true false = refl

turned : (a b c : Bool) → (a || (b || c)) ≡ ((b || a) || c)
turned true true c = refl
turned true false c = refl
turned false true c = refl
turned false false c = refl

module _ (ns : List ℕ) (marks : List Bool) (n k : ℕ) where
  -- the mark of n is made, and that of k asked
  pub marked_more : k < length marks → n < length marks → (is_in ns k || slice_index_or (set marks n true) k false) ≡ (is_in (n ∷ ns) k || slice_index_or marks k false)
  marked_more low there = elim (cases_eq k n) [
    | inl same ↦
        ap (λ j. is_in ns k || slice_index_or (set marks n true) j false) same
        ∙ ap (λ b. is_in ns k || b) (get_or-set_same marks n true false there) ∙ or_true (is_in ns k)
        ∙ sym (ap (λ b. (b || is_in ns k) || slice_index_or marks k false) (eq-eqb n k (sym same)))
    | inr other ↦
        ap (λ b. is_in ns k || b) (get_or-set_other marks n k true false other)
        ∙ sym (ap (λ b. (b || is_in ns k) || slice_index_or marks k false) (ne_eqb n k (λ same. other (sym same))))
  ]

  -- there is no mark of n
  pub marked_past : k < length marks → length marks ≤ n → (is_in ns k || slice_index_or marks k false) ≡ (is_in (n ∷ ns) k || slice_index_or marks k false)
  marked_past low past = sym (ap (λ b. (b || is_in ns k) || slice_index_or marks k false) (ne_eqb n k (λ same. absurd (omega arith))))

-- the marks of a step's numbers are made
pub step_marked : (steps : List WhyStep) (step : WhyStep) (k : ℕ) (old new : Bool) → new ≡ (is_in step.by.items k || old) → (is_named steps k || new) ≡ (is_named (step ∷ steps) k || old)
step_marked steps step k old new is = ap (λ b. is_named steps k || b) is ∙ turned (is_named steps k) (is_in step.by.items k) old

-- ---- what is named is used

named_at : (steps : List WhyStep) (k : ℕ) → is_named steps k ≡ true → (number : ℕ) × (step : WhyStep) × (slice_get steps number ≡ Some step) × Contains step.by.items k
named_at [] k is = absurd (false≢true is)
named_at (step ∷ steps) k is = elim (or_cases (is_in step.by.items k) (is_named steps k) is) [
  | inl here ↦ (0, step, refl, Contains-in step.by.items k here)
  | inr later ↦
      let found = named_at steps k later in
      (suc found.0, found.1, found.2, found.3)
]

pub used_of : (steps : List WhyStep) (k : ℕ) → NamesEarlier steps → is_named steps k ≡ true → IsUsed steps k
used_of steps k earlier is =
    let found = named_at steps k is in
    record { number = found.0; later = earlier.each found.0 found.1 found.2 k found.3; step = found.1; is = found.2; names = found.3 }

named_there : (steps : List WhyStep) (k number : ℕ) (step : WhyStep) → slice_get steps number ≡ Some step → Contains step.by.items k → is_named steps k ≡ true
named_there [] k number step at names = absurd (none-some step at)
named_there (s ∷ steps) k zero step at names =
    or_left (is_in s.by.items k) (is_named steps k) (ap (λ (w : WhyStep). is_in w.by.items k) (same_Some s step at) ∙ in-Contains step.by.items k names)
named_there (s ∷ steps) k (suc number) step at names = or_right (is_in s.by.items k) (is_named steps k) (named_there steps k number step at names)

pub named_of : (steps : List WhyStep) (k : ℕ) → IsUsed steps k → is_named steps k ≡ true
named_of steps k used = named_there steps k used.number used.step used.is used.names

-- ---- when all is gone through

nothing_left : {A : Type 0} (xs : List A) (i : ℕ) → length xs ≤ i → drop i xs ≡ []
nothing_left [] zero past = refl
nothing_left [] (suc i) past = refl
nothing_left (x ∷ xs) zero past = absurd (omega arith)
nothing_left (x ∷ xs) (suc i) past = nothing_left xs i (omega arith)

pub all_marked : (ns : List ℕ) (i k : ℕ) (mark wanted : Bool) → length ns ≤ i → (is_in (drop i ns) k || mark) ≡ wanted → mark ≡ wanted
all_marked ns i k mark wanted past is = sym (ap (λ xs. is_in xs k || mark) (nothing_left ns i past)) ∙ is

pub all_named : (steps : List WhyStep) (i k : ℕ) (mark wanted : Bool) → length steps ≤ i → (is_named (drop i steps) k || mark) ≡ wanted → mark ≡ wanted
all_named steps i k mark wanted past is = sym (ap (λ xs. is_named xs k || mark) (nothing_left steps i past)) ∙ is
