-- Lists of numbers that rise: two of them with the same numbers are one.
use Rattle.std.proofs.Common.{◌≡◌, ℕ, zero, suc, ◌+◌, ◌<◌, ◌≤◌, List, [], ◌∷◌, length, refl, subst, arith}
use Rattle.std.specs.Prelude.{slice_index_or, slice_index}
use Rattle.std.specs.List.{Contains, AllPairs}
use Rattle.std.specs.List.Sorted.{IsStrictlyIncreasing}
use Rattle.std.proofs.lemmas.List.Kept.{AllPairs-from_increasing}
use Rattle.std.proofs.lemmas.List.{get_or_default}
use Rattle.flat_core.proofs.Members.{contains_head, contains_tail}

-- they rise from a number on
abbrev pub Rising : ℕ → List ℕ → Type 0
Rising low [] = Unit {0}
Rising low (x ∷ xs) = (low ≤ x) × Rising (suc x) xs

rising_pairs : (low : ℕ) (xs : List ℕ) → AllPairs (λ x y. x < y) xs → ((j : ℕ) → j < length xs → low ≤ slice_index_or xs j 0) → Rising low xs
rising_pairs low [] pairs all = tt
rising_pairs low (x ∷ xs) pairs all =
    (all 0 (omega arith), rising_pairs (suc x) xs (λ i j d lt le. pairs (suc i) (suc j) d (omega arith) (omega arith)) (λ j lt. pairs 0 (suc j) 0 (omega arith) (omega arith)))

pub rising : (xs : List ℕ) → IsStrictlyIncreasing xs → Rising 0 xs
rising xs up = rising_pairs 0 xs (AllPairs-from_increasing xs up) (λ j lt. omega arith)

rising_index : (low : ℕ) (xs : List ℕ) → Rising low xs → (k : ℕ) → k + 1 < length xs → slice_index_or xs k 0 < slice_index_or xs (suc k) 0
rising_index low [] up k lt = absurd (omega arith)
rising_index low (x ∷ []) up k lt = absurd (omega arith)
rising_index low (x ∷ y ∷ xs) up zero lt = up.1.0
rising_index low (x ∷ y ∷ xs) up (suc k) lt = rising_index (suc x) (y ∷ xs) up.1 k (omega arith)

pub increasing : (low : ℕ) (xs : List ℕ) → Rising low xs → IsStrictlyIncreasing xs
increasing low xs up k lt =
    let e : suc k ≡ k + 1 = omega arith in
    let lower : slice_index_or xs k 0 ≡ slice_index xs k = get_or_default xs k 0 0 (omega arith) in
    subst (λ n. slice_index xs k < slice_index xs n) e (rising_index low xs up k lt)

pub rising_at : (low : ℕ) (xs : List ℕ) → Rising low xs → (t : ℕ) → Contains xs t → low ≤ t
rising_at low [] up t (k, lt, is) = absurd (omega arith)
rising_at low (x ∷ xs) up t (zero, lt, is) = let le = up.0 in omega arith
rising_at low (x ∷ xs) up t (suc k, lt, is) = let le = up.0 in let rest = rising_at (suc x) xs up.1 t (k, omega arith, is) in omega arith

in_rest : (x : ℕ) (xs : List ℕ) (t : ℕ) → (x ≡ t → ⊥) → Contains (x ∷ xs) t → Contains xs t
in_rest x xs t other (zero, lt, is) = absurd (other is)
in_rest x xs t other (suc k, lt, is) = (k, omega arith, is)

pub same_rising : (low high : ℕ) (xs ys : List ℕ) → Rising low xs → Rising high ys → ((t : ℕ) → Contains xs t → Contains ys t) → ((t : ℕ) → Contains ys t → Contains xs t) → xs ≡ ys
same_rising low high [] [] up rise to back = refl
same_rising low high [] (y ∷ ys) up rise to back = let (k, lt, is) = back y (contains_head y ys) in absurd (omega arith)
same_rising low high (x ∷ xs) [] up rise to back = let (k, lt, is) = to x (contains_head x xs) in absurd (omega arith)
same_rising low high (x ∷ xs) (y ∷ ys) up rise to back =
    let x_low = rising_at y (y ∷ ys) (omega arith, rise.1) x (to x (contains_head x xs)) in
    let y_low = rising_at x (x ∷ xs) (omega arith, up.1) y (back y (contains_head y ys)) in
    let here : x ≡ y = omega arith in
    let rest : xs ≡ ys = same_rising (suc x) (suc y) xs ys up.1 rise.1
    (λ t c. in_rest y ys t (λ is. let lt = rising_at (suc x) xs up.1 t c in absurd (omega arith)) (to t (contains_tail x xs t c)))
    (λ t c. in_rest x xs t (λ is. let lt = rising_at (suc y) ys rise.1 t c in absurd (omega arith)) (back t (contains_tail y ys t c))) in
    λ i. here i ∷ rest i
