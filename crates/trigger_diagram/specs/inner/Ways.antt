-- How deep calls over nodes nest: a call for two nodes makes calls for the sides of the two alone, in the same arena or in one that has
-- grown.
use Rattle.std.specs.Prelude.{◌≡◌, ℕ, ◌≤◌, suc, ◌⊎◌, List, length, map}
use Rattle.std.specs.List.{Contains}
use Rattle.flat_core.specs.System.{System}
use Rattle.trigger_rules.specs.declared.atom.Atom.{Atom}
use Rattle.trigger_rules.specs.Question.{Stands}
use Rattle.decision_diagrams.specs.declared.arena.Branch.{Branch}
use Rattle.decision_diagrams.specs.declared.join.Pair.{Pair}
use Rattle.decision_diagrams.specs.declared.join.Split.{Split}
use Rattle.decision_diagrams.specs.inner.DecisionTree.{DecisionTree, Leaf, Fork}
use Rattle.decision_diagrams.specs.inner.Arena.{tree_at, AreCanonical, Grows}
use Rattle.decision_diagrams.specs.inner.Join.{AreNodes, IsSplit}
use Rattle.trigger_diagram.specs.inner.Kept.{Kept, AreDiagramsOf, IsNodeIn, IsNodeOf}
use Rattle.trigger_diagram.specs.inner.Truth.{variable_of}

-- a variable of a tree, and of one of two nodes
abbrev pub Occurs : ℕ → DecisionTree → Type 0
Occurs x (Leaf b) = ⊥
Occurs x (Fork y low high) = (x ≡ y) ⊎ (Occurs x low ⊎ Occurs x high)

abbrev pub OccursInOne : List Branch → Pair → ℕ → Type 0
OccursInOne bs p x = Occurs x (tree_at bs p.first) ⊎ Occurs x (tree_at bs p.second)

-- q is one of the two pairs into which p is split
pub record IsSide (bs : List Branch) (p q : Pair) : Type 0 where
  pub split : Split
  pub is : IsSplit bs p split
  pub one : (q ≡ split.low) ⊎ (q ≡ split.high)

-- So many calls may nest in the call for a pair.
pub data Nests : List Branch → Pair → ℕ → Type 0 where
  none : {bs : List Branch} {p : Pair} → Nests bs p 0
  -- the call for p makes one for its side q , in an arena that may have grown
  one_more :
      {bs more : List Branch} {p q : Pair} {n : ℕ} →
      IsSide bs p q →
      Grows bs more →
      AreCanonical more →
      Nests more q n →
      Nests bs p (suc n)

-- They are no more than the variables of both nodes.
abbrev pub NestsByVariables : Type 0
NestsByVariables =
    (bs : List Branch) (p : Pair) (n : ℕ) (variables : List ℕ) →
    AreCanonical bs →
    AreNodes bs p →
    Nests bs p n →
    ((x : ℕ) → OccursInOne bs p x → Contains variables x) →
    n ≤ length variables

-- The variables of an equation's node are those of atoms that stand in its formula.
abbrev pub VariablesStand : Type 0
VariablesStand =
    (d : Kept) (s : System) (x n : ℕ) (atoms : List Atom) →
    AreCanonical d.branches →
    AreDiagramsOf d s →
    IsNodeIn d n →
    IsNodeOf d x n →
    ((a : Atom) → Stands s x a → Contains atoms a) →
    (y : ℕ) → Occurs y (tree_at d.branches n) → Contains (map variable_of atoms) y
