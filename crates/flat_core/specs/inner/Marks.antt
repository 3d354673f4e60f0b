-- Marks of numbers, as a search along the edges of a graph keeps them: of equations, for those that the outputs need.
use Rattle.std.specs.Prelude.{◌≡◌, ℕ, ◌+◌, ◌<◌, Bool, false, not, ◌||◌, ◌&&◌, List, length, count_by, All, IsTrue, IsFalse, slice_index_or}
use Rattle.flat_core.specs.declared.equation.Equation.{Equation}
use Rattle.flat_core.specs.declared.reach.Marks.{Marks}
use Rattle.translation_order.specs.Graph.{Walk}
use Rattle.flat_core.specs.Members.{is_in}

abbrev pub has_mark : List Bool → ℕ → Bool
has_mark marked i = slice_index_or marked i false

abbrev pub is_marked : Marks → ℕ → Bool
is_marked m i = has_mark m.marked.items i

abbrev pub is_waiting : Marks → ℕ → Bool
is_waiting m i = is_in m.waiting.items i

abbrev pub AreBelow : ℕ → List ℕ → Type 0
AreBelow n ids = All (λ i. i < n) ids

-- the arguments of each equation are there
abbrev pub ArgumentsThere : List Equation → Type 0
ArgumentsThere equations = All (λ e. AreBelow (length equations) e.args) equations

-- what is still to be done: marks to make, and marked equations to look at
abbrev pub left : Marks → ℕ
left m = count_by not m.marked.items + length m.waiting.items

-- n is m with these equations marked, of which the new ones wait
pub record Marked (ids : List ℕ) (m n : Marks) : Type 0 where
  pub one_each : length n.marked.items ≡ length m.marked.items
  pub marks : (i : ℕ) → is_marked n i ≡ (is_in ids i || is_marked m i)
  pub waits : (i : ℕ) → is_waiting n i ≡ (is_waiting m i || (is_in ids i && not (is_marked m i)))
  pub same_left : left n ≡ left m

-- a walk leads to x from a marked number
pub record IsReachedAlong (E : ℕ → ℕ → Type 0) (marked : List Bool) (x : ℕ) : Type 0 where
  pub start : ℕ
  pub is_start : IsTrue (has_mark marked start)
  pub walk : Walk E start x

-- n is m with all numbers marked to which a walk leads from a marked one
pub record Spread (E : ℕ → ℕ → Type 0) (m n : Marks) : Type 0 where
  pub one_each : length n.marked.items ≡ length m.marked.items
  pub kept : (i : ℕ) → IsTrue (is_marked m i) → IsTrue (is_marked n i)
  pub from : (i : ℕ) → IsTrue (is_marked n i) → IsReachedAlong E m.marked.items i
  pub closed : (i : ℕ) → IsTrue (is_marked n i) → (a : ℕ) → E i a → IsTrue (is_marked n a)

-- n is on the way there: what is marked is reached, and what follows on what does not wait is marked
pub record Spreading (E : ℕ → ℕ → Type 0) (m n : Marks) : Type 0 where
  pub one_each : length n.marked.items ≡ length m.marked.items
  pub kept : (i : ℕ) → IsTrue (is_marked m i) → IsTrue (is_marked n i)
  pub from : (i : ℕ) → IsTrue (is_marked n i) → IsReachedAlong E m.marked.items i
  pub waiting : (i : ℕ) → IsTrue (is_waiting n i) → IsTrue (is_marked n i)
  pub closed : (i : ℕ) → IsTrue (is_marked n i) → IsFalse (is_waiting n i) → (a : ℕ) → E i a → IsTrue (is_marked n a)
