-- What an arena of nodes holds: the tree of each node. Node 0 is the leaf false, node 1 is the leaf true, and the others are branches.
use Rattle.std.specs.Prelude.{◌≡◌, ℕ, ◌<◌, ◌≤◌, ◌+◌, Bool, true, false, ◌&&◌, nat_eq}
use Rattle.std.specs.Prelude.{List, [], ◌∷◌, ◌++◌, length, Some, slice_get, slice_index_or}
use Rattle.std.specs.List.{IsDistinct}
use Rattle.decision_diagrams.specs.declared.arena.Branch.{Branch}
use Rattle.decision_diagrams.specs.inner.DecisionTree.{DecisionTree, Leaf, Fork, IsAfter, IsCanonical}

abbrev pub tree_in : List DecisionTree → ℕ → DecisionTree
tree_in trees n = slice_index_or trees n (Leaf false)

-- the tree of a branch, by those of the nodes before it
abbrev pub fork_in : List DecisionTree → Branch → DecisionTree
fork_in trees b = Fork b.variable (tree_in trees b.low) (tree_in trees b.high)

abbrev pub trees_from : List DecisionTree → List Branch → List DecisionTree
trees_from trees [] = trees
trees_from trees (b ∷ branches) = trees_from (trees ++ fork_in trees b ∷ []) branches

-- the trees of all nodes, and that of one
abbrev pub trees_of : List Branch → List DecisionTree
trees_of branches = trees_from (Leaf false ∷ Leaf true ∷ []) branches

unfoldable pub tree_at : List Branch → ℕ → DecisionTree
tree_at branches n = tree_in (trees_of branches) n

-- the node is one of the arena
abbrev pub IsNode : List Branch → ℕ → Type 0
IsNode branches n = n < length branches + 2

-- a branch whose sides come before node n and after its variable, and whose tree is that of the node
pub record IsSound (branches : List Branch) (n : ℕ) (b : Branch) : Type 0 where
  pub low : b.low < n
  pub high : b.high < n
  pub differ : b.low ≡ b.high → ⊥
  pub low_after : IsAfter b.variable (tree_at branches b.low)
  pub high_after : IsAfter b.variable (tree_at branches b.high)
  pub is : tree_at branches n ≡ Fork b.variable (tree_at branches b.low) (tree_at branches b.high)

abbrev pub same_branch : Branch → Branch → Bool
same_branch a b = nat_eq a.variable b.variable && (nat_eq a.low b.low && nat_eq a.high b.high)

pub record IsArena (branches : List Branch) : Type 0 where
  pub sound : (k : ℕ) (b : Branch) → slice_get branches k ≡ Some b → IsSound branches (k + 2) b
  pub once : IsDistinct same_branch branches

-- Each tree is canonical, and stands once.
pub record AreCanonical (branches : List Branch) : Type 0 where
  pub canonical : (n : ℕ) → IsNode branches n → IsCanonical (tree_at branches n)
  pub once : (m n : ℕ) → IsNode branches m → IsNode branches n → tree_at branches m ≡ tree_at branches n → m ≡ n
  pub no : tree_at branches 0 ≡ Leaf false
  pub yes : tree_at branches 1 ≡ Leaf true

-- nodes that were there keep their trees
pub record Grows (old new : List Branch) : Type 0 where
  pub many : length old ≤ length new
  pub kept : (n : ℕ) → IsNode old n → tree_at new n ≡ tree_at old n
