-- The search for what a gate implies.
use Rattle.std.specs.Prelude.{◌≡◌, ℕ, ◌+◌, ◌/◌, ◌<◌, ◌≤◌, ◌⊎◌, slice_index, Bool, List, Some, length, slice_get, IsTrue, IsFalse}
use Rattle.std.specs.List.{Contains}
use Rattle.gate_circuits.specs.declared.circuit.Gate.{Gate}
use Rattle.gate_circuits.specs.declared.circuit.Gate.TheVariants as gate
use Rattle.gate_circuits.specs.declared.search.Seen.{Seen}
use Rattle.gate_circuits.specs.declared.search.Seen.TheVariants as seen
use Rattle.gate_circuits.specs.declared.search.Turn.{Turn}
use Rattle.gate_circuits.specs.declared.search.Descent.{Descent}
use Rattle.gate_circuits.specs.declared.search.Descent.TheVariants as descent
use Rattle.gate_circuits.specs.declared.deciding.Row.{Row}
use Rattle.gate_circuits.specs.Circuit.{IsOn, Implies}
use Rattle.gate_circuits.specs.inner.Marks.{has}
use Rattle.gate_circuits.specs.inner.Knowledge.{AreAllOn, AreImplied, AreRefuted, Follow, IsNever, IsRefuted}

abbrev pub IsSum : List Gate → ℕ → Type 0
IsSum gates x = (inputs : List ℕ) × (slice_get gates x ≡ Some (gate.Any inputs))

-- one of some gates is on
abbrev pub IsAnyOn : List Gate → (ℕ → Bool) → List ℕ → Type 0
IsAnyOn gates leaves list = (y : ℕ) × Contains list y × IsOn gates leaves y

-- where a gate is on, one of these is, and the other way round
pub record AreSummands (gates : List Gate) (sum : ℕ) (list : List ℕ) : Type 0 where
  pub below : IsSum gates sum → (y : ℕ) → Contains list y → y < sum
  pub imply : (y : ℕ) → Contains list y → Implies gates y sum
  pub cover : (leaves : ℕ → Bool) → IsOn gates leaves sum → IsAnyOn gates leaves list

-- a gate is on where those of a set before it are, and it itself if it is a leaf
abbrev pub IsHeld : List Gate → List ℕ → ℕ → Type 0
IsHeld gates set x = (leaves : ℕ → Bool) →
    ((y : ℕ) → y < x → IsTrue (has set y) → IsOn gates leaves y) →
    (slice_get gates x ≡ Some gate.Leaf → IsTrue (leaves x)) → IsOn gates leaves x

abbrev pub AreHeld : List Gate → List ℕ → ℕ → Type 0
AreHeld gates set place = (x : ℕ) → place ≤ x → IsTrue (has set x) → IsHeld gates set x

-- a turn of a search
pub record IsTurn (gates : List Gate) (turn : Turn) : Type 0 where
  pub room : length turn.wanted ≡ length gates / 64 + 1
  pub held : AreHeld gates turn.wanted turn.place
  pub known : Follow gates turn.wanted turn.known

-- more is wanted in the same assignments
pub record IsNarrowed (gates : List Gate) (old new : Turn) : Type 0 where
  pub room : length new.wanted ≡ length old.wanted
  pub kept : (x : ℕ) → IsTrue (has old.wanted x) → IsTrue (has new.wanted x)
  pub forced : Follow gates old.wanted new.wanted
  pub known : new.known ≡ old.known

abbrev pub IsSeen : List Gate → ℕ → Turn → Seen → Type 0
IsSeen gates x turn seen.Held = IsHeld gates turn.wanted x
IsSeen gates x turn seen.Never = IsNever gates x
IsSeen gates x turn seen.Open = IsSum gates x

-- a sum of which no summand is wanted, and where the wanted gates after it are held
pub record IsOpen (gates : List Gate) (old : ℕ) (turn : Turn) (sum : ℕ) (list : List ℕ) : Type 0 where
  pub lower : sum < old
  pub is_sum : IsSum gates sum
  pub wanted : IsTrue (has turn.wanted sum)
  pub held : AreHeld gates turn.wanted (sum + 1)
  pub summands : AreSummands gates sum list

abbrev pub IsDescent : List Gate → ℕ → Turn → Descent → Type 0
IsDescent gates old turn descent.Bottom = AreHeld gates turn.wanted 0
IsDescent gates old turn descent.Never = (leaves : ℕ → Bool) → AreAllOn gates leaves turn.wanted → ⊥
IsDescent gates old turn (descent.Open sum list) = IsOpen gates old turn sum list.items

-- What is not left over after a turn was refuted. If the turn is done, what is left over is on wherever all wanted gates are.
pub record IsSearched (gates : List Gate) (wanted old new : List ℕ) (done : Bool) : Type 0 where
  pub kept : (b : ℕ) → IsTrue (has new b) → IsTrue (has old b)
  pub rest : IsTrue done → Follow gates wanted new
  pub refuted : (a b : ℕ) → IsTrue (has wanted a) → IsTrue (has old b) → IsFalse (has new b) → IsRefuted gates a b

-- a turn that wants just one gate
pub record IsTurnOf (gates : List Gate) (a : ℕ) (turn : Turn) : Type 0 where
  pub right : IsTurn gates turn
  pub there : IsTrue (has turn.wanted a)
  pub only : (x : ℕ) → IsTrue (has turn.wanted x) → x ≡ a

-- a gate implies nothing that is not left over, and if all is decided, it implies what is
pub record IsDecided (gates : List Gate) (a : ℕ) (old new : List ℕ) (whole : Bool) : Type 0 where
  pub rest : IsTrue whole → AreImplied gates a new
  pub refuted : (b : ℕ) → IsTrue (has old b) → IsFalse (has new b) → IsRefuted gates a b

pub record IsRow (gates : List Gate) (a : ℕ) (row : Row) : Type 0 where
  pub known : AreImplied gates a row.known
  pub refuted : AreRefuted gates a row.refuted

-- what is left over after the first so many turns, one for each summand
pub record IsPartly (gates : List Gate) (wanted list old new : List ℕ) (n : ℕ) : Type 0 where
  pub kept : (b : ℕ) → IsTrue (has new b) → IsTrue (has old b)
  pub done : (b : ℕ) → IsTrue (has new b) → (k : ℕ) → k < n → (leaves : ℕ → Bool) →
      AreAllOn gates leaves wanted → IsOn gates leaves (slice_index list k) → IsOn gates leaves b
  pub refuted : (a b : ℕ) → IsTrue (has wanted a) → IsTrue (has old b) → IsFalse (has new b) → IsRefuted gates a b

-- what all of the first so many gates have in common, where all of a set are on
abbrev pub AreCommon : List Gate → List ℕ → List ℕ → ℕ → List ℕ → Type 0
AreCommon gates known list n common =
    (b : ℕ) → IsTrue (has common b) → (k : ℕ) → k < n → (leaves : ℕ → Bool) →
    AreAllOn gates leaves known → IsOn gates leaves (slice_index list k) → IsOn gates leaves b

-- the summands of a gate, as they are found from above down: those found, and the marked ones before a place
pub record AreDivided (gates : List Gate) (sum end : ℕ) (marked list : List ℕ) : Type 0 where
  pub room : length marked ≡ length gates / 64 + 1
  pub low : (x : ℕ) → IsTrue (has marked x) → x ≤ sum
  pub marked_imply : (x : ℕ) → IsTrue (has marked x) → Implies gates x sum
  pub below : IsSum gates sum → (y : ℕ) → Contains list y → y < sum
  pub imply : (y : ℕ) → Contains list y → Implies gates y sum
  pub cover : (leaves : ℕ → Bool) → IsOn gates leaves sum →
      IsAnyOn gates leaves list ⊎ ((x : ℕ) × (x < end) × IsTrue (has marked x) × IsOn gates leaves x)
