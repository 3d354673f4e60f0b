-- Circuits of gates, and which gates imply which.
use Rattle.std.specs.Prelude.{◌≡◌, ℕ, ◌<◌, Bool, List, Some, slice_get, IsTrue}
use Rattle.std.specs.List.{All, Contains}
use Rattle.gate_circuits.specs.declared.circuit.Gate.{Gate}
use Rattle.gate_circuits.specs.declared.circuit.Gate.TheVariants as gate

-- all inputs of a gate are below a number
abbrev pub AreInputsBelow : ℕ → Gate → Type 0
AreInputsBelow count gate.Leaf = Unit {0}
AreInputsBelow count (gate.All inputs) = All (λ i. i < count) inputs
AreInputsBelow count (gate.Any inputs) = All (λ i. i < count) inputs

-- the inputs of each gate come before it
abbrev pub IsOrdered : List Gate → Type 0
IsOrdered gates = (x : ℕ) (it : Gate) → slice_get gates x ≡ Some it → AreInputsBelow x it

-- a gate is on, by which leaves are
pub data IsOn (gates : List Gate) (leaves : ℕ → Bool) : ℕ → Type 0 where
  leaf : {x : ℕ} → slice_get gates x ≡ Some gate.Leaf → IsTrue (leaves x) → IsOn gates leaves x
  all : {x : ℕ} {inputs : List ℕ} → slice_get gates x ≡ Some (gate.All inputs) →
      ((i : ℕ) → Contains inputs i → IsOn gates leaves i) → IsOn gates leaves x
  any : {x i : ℕ} {inputs : List ℕ} → slice_get gates x ≡ Some (gate.Any inputs) →
      Contains inputs i → IsOn gates leaves i → IsOn gates leaves x

-- a gate is on wherever another is
abbrev pub Implies : List Gate → ℕ → ℕ → Type 0
Implies gates a b = (leaves : ℕ → Bool) → IsOn gates leaves a → IsOn gates leaves b
