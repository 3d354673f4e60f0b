use Rattle.std.proofs.Common.{◌≡◌, ℕ, ◌<◌, ◌≤◌, List, length, get_or, Ok, Err, subst, ◌∙◌, inl, inr, arith}
use Rattle.std.specs.Prelude.{Result}
use Rattle.std.specs.Ordering.{nat_cmp}
use Rattle.std.specs.List.Sorted.{IsStrictlyIncreasing, IsBinarySearchResult}
use Rattle.std.proofs.lemmas.Bool.{cases_lt}
use Rattle.std.proofs.lemmas.List.Kept.{AllPairs-from_increasing}
use Rattle.std.proofs.lemmas.List.Sorted.{searched}
use Rattle.flat_core.specs.Members.{IsPlace}
use Rattle.flat_core.proofs.lists.EqSet.find.Goals as goal

rises : (xs : List ℕ) → IsStrictlyIncreasing xs → (i j : ℕ) → i ≤ j → j < length xs → get_or xs i 0 ≤ get_or xs j 0
rises xs rising i j le lt = elim (cases_lt i j) [
  | inl less ↦ let below = AllPairs-from_increasing xs rising i j 0 less lt in omega arith
  | inr not_less ↦ let same : i ≡ j = omega arith in subst (λ k. get_or xs i 0 ≤ get_or xs k 0) same (omega arith)
]

placed : (xs : List ℕ) (x : ℕ) (r : Result ℕ ℕ) → IsBinarySearchResult (λ y. nat_cmp y x) xs r → IsStrictlyIncreasing xs → IsPlace xs x r
placed xs x (Ok k) found rising = searched xs x (Ok k) found (rises xs rising)
placed xs x (Err k) found rising = searched xs x (Err k) found (rises xs rising)

pub returns : goal.returns
returns c =
    let is = c.deref.ensures.value ∙ c.self.view_is in
    placed c.args.self.now c.args.id c.binary_search.result (subst (λ xs. IsBinarySearchResult (λ y. nat_cmp y c.args.id) xs c.binary_search.result) is c.binary_search.ensures.position) (subst IsStrictlyIncreasing c.self.view_is c.self.invariant)
