-- The nodes that are made of formulas.
use Rattle.std.specs.Prelude.{◌≡◌, ℕ, ◌↔◌, Bool, false, List, slice_get, slice_index_or, IsTrue}
use Rattle.std.specs.Prelude.{Option, Some, None, unwrap_or, is_some}
use Rattle.std.specs.List.{AllByRecursion}
use Rattle.trigger_rules.specs.Formula.{Assignment}
use Rattle.trigger_starts.specs.declared.rules.Rule.{Rule}
use Rattle.trigger_starts.specs.inner.Rules.{used_by}
use Rattle.trigger_starts.specs.inner.Truth.{IsMet}
use Rattle.decision_diagrams.specs.declared.arena.Branch.{Branch}
use Rattle.decision_diagrams.specs.inner.Arena.{IsNode}
use Rattle.trigger_diagram.specs.inner.Truth.{truth}

-- the node of an equation, and false where none is made
abbrev pub node_at : List (Option ℕ) → ℕ → ℕ
node_at nodes x = unwrap_or (slice_index_or nodes x None) 0

-- the value of that node in an assignment
abbrev pub value_at : List Branch → List (Option ℕ) → Assignment → ℕ → Bool
value_at branches nodes holds x = truth branches (node_at nodes x) holds

abbrev pub IsMade : List (Option ℕ) → ℕ → Type 0
IsMade nodes x = IsTrue (is_some (slice_index_or nodes x None))

abbrev pub AreThere : List Branch → List (Option ℕ) → Type 0
AreThere branches nodes = (x : ℕ) → IsNode branches (node_at nodes x)

-- the nodes that are made are those of their equations' formulas
pub record AreNodesOf (rules : List Rule) (starts : List Bool) (branches : List Branch) (nodes : List (Option ℕ)) : Type 0 where
  pub there : AreThere branches nodes
  pub exact :
      (x : ℕ) → IsMade nodes x →
      (holds : Assignment) → IsTrue (value_at branches nodes holds x) ↔ IsMet false rules starts holds x

-- the nodes that an equation's formula needs are made
abbrev pub UsedMade : List Rule → List (Option ℕ) → ℕ → Type 0
UsedMade rules nodes x = (it : Rule) → slice_get rules x ≡ Some it → AllByRecursion (IsMade nodes) (used_by it)
