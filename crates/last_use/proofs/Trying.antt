-- The set in which an update is tried, as it is made: its members are pushed from the least on.
use Rattle.std.proofs.Common.{◌≡◌, ◌==◌, ◌||◌, ℕ, ◌<◌, List, [], ◌∷◌, ◌++◌, ◌+◌, length, take, get_or, sym, ap, subst, ◌∙◌, inl, inr, arith}
use Rattle.std.specs.Prelude.{IsTrue}
use Rattle.std.specs.List.Sorted.{IsStrictlyIncreasing}
use Rattle.std.proofs.lemmas.Bool.{or_cases, or_left, or_right, eq-eqb, eqb-true}
use Rattle.std.proofs.lemmas.Grind.{get_or_default_zero}
use Rattle.std.proofs.lemmas.List.{get_or-take, length-take-le, take_more}
use Rattle.std.proofs.lemmas.List.Kept.{AllPairs-from_increasing}
use Rattle.flat_core.specs.Members.{is_in}
use Rattle.flat_core.proofs.Members.{Contains-in}
use Rattle.alias_rules.specs.Fine.{with_tried}
use Rattle.flat_core.proofs.Rising.{same_rising, in_push, push_old, push_new, increasing_push}
use Rattle.alias_rules.proofs.Tried.{tried_above}

-- what is pushed after all others stands at the end
pub pushed_last : (xs new : List ℕ) (y : ℕ) → IsStrictlyIncreasing xs → IsStrictlyIncreasing new → ((x : ℕ) → IsTrue (is_in xs x) → x < y) → ((x : ℕ) → is_in new x ≡ ((y == x) || is_in xs x)) → new ≡ xs ++ y ∷ []
pushed_last xs new y up new_up low members =
    same_rising new (xs ++ y ∷ []) (AllPairs-from_increasing new new_up) (AllPairs-from_increasing (xs ++ y ∷ []) (increasing_push xs y up low))
    (λ x h. elim (or_cases (y == x) (is_in xs x) (sym (members x) ∙ h)) [
      | inl here ↦ push_new xs y x (eqb-true y x here)
      | inr old ↦ push_old xs y x old
    ])
    (λ x h. members x ∙ elim (in_push xs y x h) [
      | inl old ↦ or_right (y == x) (is_in xs x) old
      | inr same ↦ or_left (y == x) (is_in xs x) (eq-eqb y x same)
    ])

pub tried_made : (set new : List ℕ) (y : ℕ) → IsStrictlyIncreasing set → IsStrictlyIncreasing new → ((x : ℕ) → IsTrue (is_in set x) → x < y) → ((x : ℕ) → is_in new x ≡ ((y == x) || is_in set x)) → new ≡ with_tried set y
tried_made set new y up new_up low members = pushed_last set new y up new_up low members ∙ sym (tried_above set y low)

-- ---- one more member of a set
taken_low : (set : List ℕ) (n x : ℕ) → n < length set → IsStrictlyIncreasing set → IsTrue (is_in (take n set) x) → x < get_or set n 0
taken_low set n x lt up h =
    let found = Contains-in (take n set) x h in
    let k = found.0 in
    let long = length-take-le n set (omega arith) in
    let within = found.1 in
    let is : get_or set k x ≡ x = sym (get_or-take n set k x (omega arith)) ∙ found.2 in
    let rises = AllPairs-from_increasing set up k n x (omega arith) lt in
    let low : x < get_or set n x = subst (λ m. m < get_or set n x) is rises in
    subst (λ m. x < m) (get_or_default_zero set n x lt) low

pub taken_more : (set tried new : List ℕ) (n : ℕ) → n < length set → IsStrictlyIncreasing set → tried ≡ take n set → IsStrictlyIncreasing tried → IsStrictlyIncreasing new → ((x : ℕ) → is_in new x ≡ ((get_or set n 0 == x) || is_in tried x)) → new ≡ take (n + 1) set
taken_more set tried new n lt up so_far tried_up new_up members =
    pushed_last tried new (get_or set n 0) tried_up new_up (λ x h. taken_low set n x lt up (subst (λ l. IsTrue (is_in l x)) so_far h)) members
    ∙ ap (λ l. l ++ get_or set n 0 ∷ []) so_far ∙ sym (take_more set n 0 lt)
