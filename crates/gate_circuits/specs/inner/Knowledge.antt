-- What is known of the gates of a circuit.
use Rattle.std.specs.Prelude.{◌≡◌, ℕ, ◌↔◌, Bool, List, Some, slice_get, IsTrue, IsFalse}
use Rattle.std.specs.List.{list_all, list_any}
use Rattle.gate_circuits.specs.declared.circuit.Gate.{Gate}
use Rattle.gate_circuits.specs.declared.circuit.Gate.TheVariants as gate
use Rattle.gate_circuits.specs.Circuit.{IsOn, Implies}
use Rattle.gate_circuits.specs.inner.Marks.{has}

-- whether a gate is on, by which of its inputs are
abbrev pub value : Gate → Bool → (ℕ → Bool) → Bool
value gate.Leaf leaf on = leaf
value (gate.All inputs) leaf on = list_all on inputs
value (gate.Any inputs) leaf on = list_any on inputs

-- all gates of a set are on
abbrev pub AreAllOn : List Gate → (ℕ → Bool) → List ℕ → Type 0
AreAllOn gates leaves set = (x : ℕ) → IsTrue (has set x) → IsOn gates leaves x

-- where all of a set are on, all of another are
abbrev pub Follow : List Gate → List ℕ → List ℕ → Type 0
Follow gates old new = (leaves : ℕ → Bool) → AreAllOn gates leaves old → AreAllOn gates leaves new

-- a gate is never on
abbrev pub IsNever : List Gate → ℕ → Type 0
IsNever gates x = (leaves : ℕ → Bool) → IsOn gates leaves x → ⊥

-- the set of the gates that are on
abbrev pub IsModel : List Gate → (ℕ → Bool) → List ℕ → Type 0
IsModel gates leaves set = (x : ℕ) → IsTrue (has set x) ↔ IsOn gates leaves x

-- those that are on by some leaves
abbrev pub IsSomeModel : List Gate → List ℕ → Type 0
IsSomeModel gates set = (leaves : ℕ → Bool) × IsModel gates leaves set

abbrev pub AreModels : List Gate → List (List ℕ) → Type 0
AreModels gates models = (k : ℕ) (on : List ℕ) → slice_get models k ≡ Some on → IsSomeModel gates on

-- a gate is on somewhere where another is off
pub record IsRefuted (gates : List Gate) (a b : ℕ) : Type 0 where
  pub leaves : ℕ → Bool
  pub on : IsOn gates leaves a
  pub off : IsOn gates leaves b → ⊥

-- a gate implies all of a set, and none of another
abbrev pub AreImplied : List Gate → ℕ → List ℕ → Type 0
AreImplied gates a row = (b : ℕ) → IsTrue (has row b) → Implies gates a b

abbrev pub AreRefuted : List Gate → ℕ → List ℕ → Type 0
AreRefuted gates a row = (b : ℕ) → IsTrue (has row b) → IsRefuted gates a b

abbrev pub AreRowsImplied : List Gate → List (List ℕ) → Type 0
AreRowsImplied gates rows = (a : ℕ) (row : List ℕ) → slice_get rows a ≡ Some row → AreImplied gates a row

abbrev pub AreRowsRefuted : List Gate → List (List ℕ) → Type 0
AreRowsRefuted gates rows = (a : ℕ) (row : List ℕ) → slice_get rows a ≡ Some row → AreRefuted gates a row

-- what is kept: the gates that may be on, and what each is known to imply
pub record IsKnowledge (gates : List Gate) (possible : List ℕ) (rows : List (List ℕ)) : Type 0 where
  pub never : (x : ℕ) → IsFalse (has possible x) → IsNever gates x
  pub sound : AreRowsImplied gates rows
