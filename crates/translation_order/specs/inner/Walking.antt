-- What the code keeps while it walks.
use Rattle.std.specs.Prelude.{◌≡◌, ℕ, ◌<◌, Bool, false, List, [], ◌∷◌, ◌++◌, length, eqb, Option, Some, None, unwrap_or, min, slice_index}
use Rattle.std.specs.Prelude.{slice_index_or, MatchOption}
use Rattle.std.specs.List.{IsDistinct, Contains, list_any}
use Rattle.translation_order.specs.Least.{IsLeast}
use Rattle.translation_order.specs.Order.{Before}
use Rattle.translation_order.specs.Cycle.{Through, IsTurned}

-- a step that counts and has to stand before x
pub record WaitsBefore (pairs : List (ℕ × ℕ)) (counts : List ℕ) (x a : ℕ) : Type 0 where
  pub waits : 0 < slice_index counts a
  pub before : Before pairs a x

-- the least of them, if there is one
abbrev pub IsLeastBefore : List (ℕ × ℕ) → List ℕ → ℕ → Option ℕ → Type 0
IsLeastBefore pairs counts x found =
    MatchOption found ((a : ℕ) → WaitsBefore pairs counts x a → ⊥) (λ a. IsLeast (WaitsBefore pairs counts x) a)

-- each step has the least of them
pub record AreLeastBefore (steps : ℕ) (pairs : List (ℕ × ℕ)) (counts : List ℕ) (found : List (Option ℕ)) : Type 0 where
  pub one_each : length found ≡ steps
  pub at : (x : ℕ) → x < steps → IsLeastBefore pairs counts x (slice_index_or found x None)

abbrev pub next_of : List (Option ℕ) → ℕ → ℕ
next_of before x = unwrap_or (slice_index_or before x None) x

-- all that is named is below the length
abbrev pub AreInside : List (Option ℕ) → Type 0
AreInside before = (x : ℕ) → x < length before → next_of before x < length before

-- a walk so far, and where it goes on
abbrev pub HasWalked : List (Option ℕ) → ℕ → List ℕ → ℕ → Type 0
HasWalked before start [] at = at ≡ start
HasWalked before start (x ∷ xs) at = (x ≡ start) × Through (λ a b. b ≡ next_of before a) start xs at

-- a walk that came to a step again
pub record Walked (before : List (Option ℕ)) (start : ℕ) (steps : List ℕ) (again : ℕ) : Type 0 where
  pub rest : List ℕ
  pub is : steps ≡ start ∷ rest
  pub goes_on : Through (λ a b. b ≡ next_of before a) start rest again
  pub once : IsDistinct eqb steps
  pub there : Contains steps again

abbrev pub lesser_of : Option ℕ → ℕ → ℕ
lesser_of None step = step
lesser_of (Some known) step = min known step

-- the least step that counts and has to stand before x, if there is any
abbrev pub Follows : List (ℕ × ℕ) → List ℕ → ℕ → ℕ → Type 0
Follows pairs counts x a = (b : ℕ) → WaitsBefore pairs counts x b → IsLeast (WaitsBefore pairs counts x) a

-- the cycle at the end of a walk
pub record IsWalkedCycle (pairs : List (ℕ × ℕ)) (counts : List ℕ) (start : ℕ) (cycle : List ℕ) : Type 0 where
  pub rest : List ℕ
  pub again : ℕ
  pub goes_on : Through (Follows pairs counts) start rest again
  pub once : IsDistinct eqb (start ∷ rest)
  pub front : List ℕ
  pub back : List ℕ
  pub around : start ∷ rest ≡ front ++ again ∷ back
  pub turned : IsTurned (again ∷ back) cycle

-- the walk before it came to a step again
pub record IsWalking (before : List (Option ℕ)) (start : ℕ) (steps : List ℕ) (at : ℕ) (seen : List Bool) : Type 0 where
  pub one_each : length seen ≡ length before
  pub walked : HasWalked before start steps at
  pub inside : at < length before
  pub once : IsDistinct eqb steps
  pub marks : (x : ℕ) → slice_index_or seen x false ≡ list_any (eqb x) steps
