-- The variables of atoms, and what nodes say of assignments.
use Rattle.std.specs.Prelude.{◌≡◌, ℕ, zero, suc, ◌+◌, ◌*◌, Bool, List}
use Rattle.trigger_rules.specs.declared.atom.Atom.{Atom}
use Rattle.trigger_rules.specs.declared.atom.Atom.TheVariants.{Start, Happens, Holds}
use Rattle.trigger_rules.specs.Formula.{Assignment}
use Rattle.decision_diagrams.specs.declared.arena.Branch.{Branch}
use Rattle.decision_diagrams.specs.inner.DecisionTree.{Valuation, value}
use Rattle.decision_diagrams.specs.inner.Arena.{tree_at, IsNode}

-- the variable of an atom
abbrev pub variable_of : Atom → ℕ
variable_of Start = 0
variable_of (Happens x) = 2 * x + 1
variable_of (Holds x) = 2 * x + 2

-- All atoms in the order of their variables: the start comes first, then those of each equation.
abbrev pub following : Atom → Atom
following Start = Happens 0
following (Happens x) = Holds x
following (Holds x) = Happens (suc x)

abbrev pub atom_of : ℕ → Atom
atom_of zero = Start
atom_of (suc n) = following (atom_of n)

abbrev pub valuation_of : Assignment → Valuation
valuation_of holds n = holds (atom_of n)

-- the value of a node in an assignment
unfoldable pub truth : List Branch → ℕ → Assignment → Bool
truth branches n holds = value (valuation_of holds) (tree_at branches n)

-- a node has the values of a function
pub record Tells (branches : List Branch) (n : ℕ) (f : Assignment → Bool) : Type 0 where
  pub there : IsNode branches n
  pub is : (holds : Assignment) → truth branches n holds ≡ f holds
