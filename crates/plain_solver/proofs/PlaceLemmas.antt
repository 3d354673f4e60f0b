-- The place that parts what comes before a time from the rest.
use Rattle.std.proofs.Common.{ℕ, zero, suc, ◌+◌, ◌<◌, ◌≤◌, true, false, List, [], ◌∷◌, length, get_or, sym, ◌∙◌, arith}
use Rattle.std.proofs.Math.Dec.{ltb}
use Rattle.std.proofs.lemmas.Bool.{ltb-true, ltb-false}
use Rattle.std.proofs.lemmas.List.{get_or_default}
use Rattle.std.specs.Prelude.{◌≡◌}
use Rattle.std.specs.List.Sorted.{IsNonDecreasingBy, IsPartitionPoint}
use Rattle.plain_solver.specs.declared.events.Moment.{Moment}
use Rattle.plain_solver.specs.inner.Moments.{IsRising}

pub point_from_tests : {X : Type 0} (n : X → ℕ) (t : ℕ) (xs : List X) (k : ℕ) → IsPartitionPoint (λ y. ltb (n y) t ≡ true) (λ y. ltb (n y) t ≡ false) xs k → IsPartitionPoint (λ y. n y < t) (λ y. t ≤ n y) xs k
point_from_tests n t xs k point = (λ j d low lt. ltb-true _ _ (point.0 j d low lt), λ j d low lt. ltb-false _ _ (point.1 j d low lt))

from_low : (low : ℕ) (xs : List Moment) → IsRising low xs → (j : ℕ) (d : Moment) → j < length xs → low ≤ (get_or xs j d).time
from_low low [] rising j d lt = absurd (omega arith)
from_low low (x ∷ xs) rising zero d lt = rising.0
from_low low (x ∷ xs) rising (suc j) d lt = let first = rising.0 in let later = from_low (x.time + 1) xs rising.1 j d (omega arith) in omega arith

pub rising_orders : (low : ℕ) (xs : List Moment) → IsRising low xs → IsNonDecreasingBy (λ (m : Moment). m.time) xs
rising_orders low [] rising i j d le lt = absurd (omega arith)
rising_orders low (x ∷ xs) rising zero zero d le lt = omega arith
rising_orders low (x ∷ xs) rising zero (suc j) d le lt = let later = from_low (x.time + 1) xs rising.1 j d (omega arith) in omega arith
rising_orders low (x ∷ xs) rising (suc i) zero d le lt = absurd (omega arith)
rising_orders low (x ∷ xs) rising (suc i) (suc j) d le lt = rising_orders (x.time + 1) xs rising.1 i j d (omega arith) (omega arith)

-- two reads of one element
pub same_read : {X : Type 0} (xs : List X) (k : ℕ) (a b : X) → k < length xs → a ≡ get_or xs k a → b ≡ get_or xs k b → a ≡ b
same_read xs k a b lt is also = is ∙ get_or_default xs k a b lt ∙ sym also
