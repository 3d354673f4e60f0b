-- The tree in which the timers find the delay that is due first.
use Rattle.std.specs.Prelude.{◌≡◌, ◌≢◌, ℕ, ◌+◌, ◌*◌, ◌<◌, ◌≤◌, List, [], ◌∷◌, length, Option, Some, None, slice_index_or, ◌⊎◌}
use Rattle.std.specs.Option.{option_map}
use Rattle.std.specs.FinMap as map
use Rattle.delay_timers.specs.declared.tree.Due.{Due}
use Rattle.delay_timers.specs.inner.Pending.{Times}

abbrev pub slot : List (Option Due) → ℕ → Option Due
slot nodes k = slice_index_or nodes k None

-- the time in the leaf of a delay
abbrev pub time_at : List (Option Due) → ℕ → ℕ → Option ℕ
time_at nodes delays d = option_map (λ due. due.time) (slot nodes (delays + d))

-- what a leaf holds belongs to its own delay
abbrev pub IsOf : ℕ → Option Due → Type 0
IsOf delay None = Unit {0}
IsOf delay (Some due) = due.delay ≡ delay

-- an earlier time comes first, and at one time the lower delay
pub record ComesFirst (a b : Due) : Type 0 where
  pub no_later : a.time ≤ b.time
  pub tied : a.time ≡ b.time → a.delay ≤ b.delay

-- what is pending comes before what is not
abbrev pub IsUpTo : Option Due → Option Due → Type 0
IsUpTo a None = Unit {0}
IsUpTo None (Some b) = ⊥
IsUpTo (Some a) (Some b) = ComesFirst a b

-- the first of two
pub record IsFirstOf (first a b : Option Due) : Type 0 where
  pub one : (first ≡ a) ⊎ (first ≡ b)
  pub left : IsUpTo first a
  pub right : IsUpTo first b

abbrev pub IsHead : List (Option Due) → ℕ → Type 0
IsHead nodes k = IsFirstOf (slot nodes k) (slot nodes (2 * k)) (slot nodes (2 * k + 1))

-- Slot 1 is the root, the children of slot k are 2 * k and 2 * k + 1, and slot delays + d is the leaf of delay d. Each slot
-- above the leaves holds the first of its children; slot 0 is unused.
pub record IsTree (nodes : List (Option Due)) (delays : ℕ) : Type 0 where
  pub room : length nodes ≡ 2 * delays
  pub own : (d : ℕ) → d < delays → IsOf d (slot nodes (delays + d))
  pub heads : (k : ℕ) → 0 < k → k < delays → IsHead nodes k

-- a tree but for one slot
pub record IsTreeBut (nodes : List (Option Due)) (delays but : ℕ) : Type 0 where
  pub room : length nodes ≡ 2 * delays
  pub own : (d : ℕ) → d < delays → IsOf d (slot nodes (delays + d))
  pub heads : (k : ℕ) → 0 < k → k < delays → k ≢ but → IsHead nodes k

-- no slot from here on differs
abbrev pub SameFrom : ℕ → List (Option Due) → List (Option Due) → Type 0
SameFrom from nodes others = (k : ℕ) → from ≤ k → slot nodes k ≡ slot others k

-- none that is due comes before this
abbrev pub IsBeforeAll : Due → Times → Type 0
IsBeforeAll due times = (delay time : ℕ) → map.get times delay ≡ Some time → ComesFirst due (record { time = time; delay = delay })

-- this is due, and none that is due comes before it
pub record IsFirstDue (times : Times) (due : Due) : Type 0 where
  pub is_due : map.get times due.delay ≡ Some due.time
  pub first : IsBeforeAll due times

-- the leaf of one delay holds this, and each other leaf what it held
pub record ChangesLeaf (old new : List (Option Due)) (delays delay : ℕ) (due : Option Due) : Type 0 where
  pub leaf : slot new (delays + delay) ≡ due
  pub others : (d : ℕ) → d ≢ delay → slot new (delays + d) ≡ slot old (delays + d)

-- the first leaf that has this time
pub record IsFirstLeafAt (nodes : List (Option Due)) (delays time delay : ℕ) : Type 0 where
  pub there : delay < delays
  pub has : time_at nodes delays delay ≡ Some time
  pub none_before : (d : ℕ) → d < delay → time_at nodes delays d ≢ Some time

abbrev pub NoLeafAt : List (Option Due) → ℕ → ℕ → Type 0
NoLeafAt nodes delays time = (d : ℕ) → time_at nodes delays d ≢ Some time

-- the entries of the leaves from one delay on
abbrev pub entries_from : ℕ → List (Option Due) → List (ℕ × ℕ)
entries_from d [] = []
entries_from d (None ∷ leaves) = entries_from (d + 1) leaves
entries_from d (Some due ∷ leaves) = (d, due.time) ∷ entries_from (d + 1) leaves

-- the map of the leaves, the first of which is that of delay 0
abbrev pub times_of : List (Option Due) → Times
times_of leaves = map.from_entries (entries_from 0 leaves)
