-- What holds of equations that are numbered from n on.
use Rattle.std.proofs.Common.{◌≡◌, ℕ, zero, suc, ◌+◌, ◌<◌, List, [], ◌∷◌, ◌++◌, length, Some, refl, subst, arith}
use Rattle.std.specs.Prelude.{slice_get}
use Rattle.std.specs.List.{AllByRecursion}
use Rattle.std.proofs.lemmas.Option.{same_Some, none-some}
use Rattle.flat_core.specs.declared.equation.Equation.{Equation}

pub record At (P : ℕ → Equation → Type 0) (n : ℕ) (own : List Equation) : Type 0 where
  pub each : (k : ℕ) (e : Equation) → slice_get own k ≡ Some e → P (n + k) e

pub at_none : {P : ℕ → Equation → Type 0} {n : ℕ} → At P n []
at_none = record { each = λ k e is. absurd (none-some e is) }

pub at_first : {P : ℕ → Equation → Type 0} {n : ℕ} {e : Equation} {es : List Equation} → At P n (e ∷ es) → P n e
at_first {P} {n} {e} {es} at = let same : n + 0 ≡ n = omega arith in subst (λ i. P i e) same (at.each 0 e refl)

pub at_rest : {P : ℕ → Equation → Type 0} {n : ℕ} {e : Equation} {es : List Equation} → At P n (e ∷ es) → At P (suc n) es
at_rest {P} {n} {e} {es} at = record { each = λ k f is. let same : n + suc k ≡ suc n + k = omega arith in subst (λ i. P i f) same (at.each (suc k) f is) }

pub at_more : {P : ℕ → Equation → Type 0} {n : ℕ} {e : Equation} {es : List Equation} → P n e → At P (suc n) es → At P n (e ∷ es)
at_more {P} {n} {e} {es} here rest = record { each = each }
  where
    each : (k : ℕ) (f : Equation) → slice_get (e ∷ es) k ≡ Some f → P (n + k) f
    each zero f is = let same : n ≡ n + 0 = omega arith in subst (λ i. P i f) same (subst (P n) (same_Some e f is) here)
    each (suc k) f is = let same : suc n + k ≡ n + suc k = omega arith in subst (λ i. P i f) same (rest.each k f is)

pub at_from : {P : ℕ → Equation → Type 0} {n : ℕ} {es : List Equation} (m : ℕ) → n ≡ m → At P n es → At P m es
at_from {P} {n} {es} m same at = subst (λ i. At P i es) same at

pub at_two : {P : ℕ → Equation → Type 0} {n : ℕ} {e f : Equation} {es : List Equation} → P n e → P (n + 1) f → At P (n + 2) es → At P n (e ∷ f ∷ es)
at_two {P} {n} {e} {f} {es} here next rest =
    let same : n + 1 ≡ suc n = omega arith in
    at_more here (at_more (subst (λ i. P i f) same next) (at_from (suc (suc n)) (omega arith) rest))

-- the second of two equations, and those after it
pub at_second : {P : ℕ → Equation → Type 0} {n : ℕ} {e f : Equation} {es : List Equation} → At P n (e ∷ f ∷ es) → P (n + 1) f
at_second {P} {n} {e} {f} {es} at = at.each 1 f refl

pub at_after : {P : ℕ → Equation → Type 0} {n : ℕ} {e f : Equation} {es : List Equation} → At P n (e ∷ f ∷ es) → At P (n + 2) es
at_after {P} {n} at = at_from (n + 2) (omega arith) (at_rest (at_rest at))

pub at_front : {P : ℕ → Equation → Type 0} {n : ℕ} (xs ys : List Equation) → At P n (xs ++ ys) → At P n xs
at_front [] ys at = at_none
at_front (x ∷ xs) ys at = at_more (at_first at) (at_front xs ys (at_rest at))

pub at_back : {P : ℕ → Equation → Type 0} {n : ℕ} (xs ys : List Equation) → At P n (xs ++ ys) → At P (n + length xs) ys
at_back {P} {n} [] ys at = at_from (n + 0) (omega arith) at
at_back {P} {n} (x ∷ xs) ys at = at_from (n + suc (length xs)) (omega arith) (at_back xs ys (at_rest at))

pub at_both : {P : ℕ → Equation → Type 0} {n : ℕ} (xs ys : List Equation) → At P n xs → At P (n + length xs) ys → At P n (xs ++ ys)
at_both {P} {n} [] ys front back = at_from n (omega arith) back
at_both {P} {n} (x ∷ xs) ys front back = at_more (at_first front) (at_both xs ys (at_rest front) (at_from (suc n + length xs) (omega arith) back))

-- what follows at each
pub at_by : {P Q : ℕ → Equation → Type 0} {n : ℕ} {es : List Equation} → ((i : ℕ) (e : Equation) → P i e → Q i e) → At P n es → At Q n es
at_by gives at = record { each = λ k e is. gives _ e (at.each k e is) }

-- what holds of each, whatever its number
pub at_list : {P : Equation → Type 0} {n : ℕ} (es : List Equation) → At (λ i e. P e) n es → AllByRecursion P es
at_list [] at = tt
at_list (e ∷ es) at = (at_first at, at_list es (at_rest at))

-- at each number there is an equation
pub at_number : {Q : ℕ → Type 0} {n : ℕ} (es : List Equation) → At (λ i e. Q i) n es → (k : ℕ) → k < length es → Q (n + k)
at_number [] at k lt = absurd (omega arith)
at_number {Q} {n} (e ∷ es) at zero lt = at.each 0 e refl
at_number {Q} {n} (e ∷ es) at (suc k) lt = let same : suc n + k ≡ n + suc k = omega arith in subst Q same (at_number es (at_rest at) k (omega arith))
