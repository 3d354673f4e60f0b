-- The trigger formulas of a system as gates, at 0 or after it.
use Rattle.std.specs.Prelude.{◌≡◌, ℕ, zero, suc, ◌+◌, ◌*◌, ◌<◌, ◌↔◌, Bool, false, List, ◌++◌, length, Some, slice_get, slice_index_or}
use Rattle.std.specs.List.{Contains}
use Rattle.gate_circuits.specs.declared.circuit.Gate.{Gate}
use Rattle.gate_circuits.specs.declared.circuit.Gate.TheVariants as gate
use Rattle.gate_circuits.specs.Circuit.{IsOn, IsOrdered}
use Rattle.trigger_rules.specs.declared.atom.Atom.{Atom}
use Rattle.trigger_rules.specs.declared.atom.Atom.TheVariants.{Start, Happens, Holds}
use Rattle.trigger_rules.specs.Formula.{Assignment}
use Rattle.trigger_starts.specs.declared.rules.Rule.{Rule}
use Rattle.trigger_starts.specs.inner.Truth.{IsMet, TrueBy}

-- the leaf of an atom, of which the start has none
abbrev pub leaf_of : Atom → ℕ
leaf_of Start = 0
leaf_of (Happens x) = 2 * x
leaf_of (Holds x) = 2 * x + 1

-- all atoms but the start in the order of their leaves
abbrev pub following : Atom → Atom
following Start = Start
following (Happens x) = Holds x
following (Holds x) = Happens (suc x)

abbrev pub atom_of : ℕ → Atom
atom_of zero = Happens 0
atom_of (suc n) = following (atom_of n)

-- an assignment by the leaves that are on, at 0 or after it
abbrev pub assignment_by : Bool → (ℕ → Bool) → Assignment
assignment_by at_zero leaves Start = at_zero
assignment_by at_zero leaves (Happens x) = leaves (leaf_of (Happens x))
assignment_by at_zero leaves (Holds x) = leaves (leaf_of (Holds x))

-- a circuit that begins with two leaves for each equation
pub record IsBegun (count : ℕ) (circuit : List Gate) : Type 0 where
  pub ordered : IsOrdered circuit
  pub leaves : (n : ℕ) → n < 2 * count → slice_get circuit n ≡ Some gate.Leaf

-- the gate of an equation
abbrev pub gate_at : List ℕ → ℕ → ℕ
gate_at gates x = slice_index_or gates x 0

abbrev pub AreThere : List ℕ → List Gate → Type 0
AreThere gates circuit = (x : ℕ) → x < length gates → gate_at gates x < length circuit

-- the new circuit has what the old one has, and a gate that is on just where P holds of the leaves
pub record AddsGate (count : ℕ) (old new : List Gate) (n : ℕ) (P : (ℕ → Bool) → Type 0) : Type 0 where
  pub begun : IsBegun count new
  pub more : List Gate
  pub grows : new ≡ old ++ more
  pub below : n < length new
  pub exact : (leaves : ℕ → Bool) → IsOn new leaves n ↔ P leaves

-- the formula of a rule is true, by the gates of its arguments that are on
abbrev pub TrueOn : Bool → Rule → ℕ → List Bool → List Gate → List ℕ → (ℕ → Bool) → Type 0
TrueOn at_zero it x starts circuit gates leaves =
    TrueBy it x starts (λ a. IsOn circuit leaves (gate_at gates a)) (assignment_by at_zero leaves)

-- the gates of some equations are on just where their formulas are true
abbrev pub AreOnWhereMet : Bool → List Rule → List Bool → List ℕ → List Gate → List ℕ → Type 0
AreOnWhereMet at_zero rules starts order circuit gates =
    (leaves : ℕ → Bool) (x : ℕ) → Contains order x →
    IsOn circuit leaves (gate_at gates x) ↔ IsMet false rules starts (assignment_by at_zero leaves) x

-- a circuit with the gates of all equations
pub record IsCircuitOf (at_zero : Bool) (rules : List Rule) (starts : List Bool) (circuit : List Gate) (gates : List ℕ) : Type 0 where
  pub each : length gates ≡ length rules
  pub there : AreThere gates circuit
  pub exact :
      (leaves : ℕ → Bool) (x : ℕ) → x < length rules →
      IsOn circuit leaves (gate_at gates x) ↔ IsMet false rules starts (assignment_by at_zero leaves) x
