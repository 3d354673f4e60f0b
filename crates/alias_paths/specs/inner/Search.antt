-- What is reached along the edges of a graph over numbers, and marks as the search for it keeps them.
use Rattle.std.specs.Prelude.{◌≡◌, ◌↔◌, ℕ, suc, ◌<◌, ◌≤◌, Bool, List, length, slice_index, slice_index_or}
use Rattle.std.specs.Prelude.{IsTrue}
use Rattle.flat_core.specs.declared.reach.Marks.{Marks}
use Rattle.flat_core.specs.inner.Marks.{has_mark, Marked, IsReachedAlong}
use Rattle.flat_core.specs.Members.{is_in}
use Rattle.translation_order.specs.Order.{AreOfSteps}
use Rattle.alias_paths.specs.declared.links.Chains.{Chains}
use Rattle.alias_paths.specs.declared.reach.Search.{Search}

-- the first of the pair at a place
abbrev pub first_at : List (ℕ × ℕ) → ℕ → ℕ
first_at pairs k = (slice_index_or pairs k (0, 0)).0

-- r is the place after the last of the pairs below a bound with this first, or 0
pub record IsAfterLast (pairs : List (ℕ × ℕ)) (first bound r : ℕ) : Type 0 where
  pub within : r ≤ bound
  pub at : (k : ℕ) → r ≡ suc k → first_at pairs k ≡ first
  pub none : (k : ℕ) → r ≤ k → k < bound → first_at pairs k ≡ first → ⊥

-- of the pairs below a bound: for each number the place after the last of its pairs, and for each pair the place after the last one
-- before it with the same first
pub record AreChained (count : ℕ) (pairs : List (ℕ × ℕ)) (bound : ℕ) (last before : List ℕ) : Type 0 where
  pub one_each : length last ≡ count
  pub all : length before ≡ bound
  pub last_is : (a : ℕ) → a < count → IsAfterLast pairs a bound (slice_index last a)
  pub before_is : (k : ℕ) → k < bound → IsAfterLast pairs (first_at pairs k) k (slice_index before k)

-- of all pairs
abbrev pub AreChainsOf : ℕ → List (ℕ × ℕ) → Chains → Type 0
AreChainsOf count pairs chains = AreChained count pairs (length pairs) chains.last.items chains.before.items

-- the pairs are of numbers for which there are chains, and the chains are theirs
pub record AreLinked (pairs : List (ℕ × ℕ)) (chains : Chains) : Type 0 where
  pub of_steps : AreOfSteps (length chains.last.items) pairs
  pub chained : AreChainsOf (length chains.last.items) pairs chains

-- just what is reached is marked
pub record AreReached (E : ℕ → ℕ → Type 0) (marked reached : List Bool) : Type 0 where
  pub each : (x : ℕ) → IsTrue (has_mark reached x) ↔ IsReachedAlong E marked x

-- the list has just the marked numbers
abbrev pub AreMarkedIn : List Bool → List ℕ → Type 0
AreMarkedIn marked numbers = (i : ℕ) → is_in numbers i ≡ has_mark marked i

abbrev pub marks_of : Search → Marks
marks_of s = record { marked = s.marked; waiting = s.waiting }

abbrev pub AreListed : Search → Type 0
AreListed s = AreMarkedIn s.marked.items s.listed.items

-- n is m with all numbers with a property marked
pub record MarkedAll (P : ℕ → Type 0) (m n : Marks) : Type 0 where
  pub numbers : List ℕ
  pub each : (x : ℕ) → IsTrue (is_in numbers x) ↔ P x
  pub marked : Marked numbers m n
