-- No more items than nodes.
use Rattle.std.proofs.Common.{◌^◌, ◌<◌, ◌≤◌, List, [], ◌∷◌, length, arith}
use Rattle.std.specs.List.{sum_by}
use Rattle.std.proofs.lemmas.List.Sums.{sum_by-cons}
use Rattle.syntax_tree.specs.Tree as tree
use Rattle.name_check.specs.Scope.{top}
use Rattle.definition_cycles.specs.Nodes.{HasFewNodes, count_of}
use Rattle.definition_cycles.proofs.NumberLemmas.{nodes_length}

-- ---- each item is a node
one_at_least : (x : tree.Item) → 0 < count_of x
one_at_least (tree.Input p q n y) = omega arith
one_at_least (tree.Defined p (tree.Define q n ps w b)) = omega arith
one_at_least (tree.Output p q n) = omega arith
one_at_least (tree.OutputAs p e q n) = omega arith

fewer_than_nodes : (items : List tree.Item) → length items ≤ sum_by count_of items
fewer_than_nodes [] = omega arith
fewer_than_nodes (x ∷ items) = omega (arith, sum_by-cons count_of x items, one_at_least x, fewer_than_nodes items)

pub fewer_items : (items : List tree.Item) → HasFewNodes items → length items < 2 ^ 32
fewer_items items few = omega (arith, few, nodes_length 0 (top items) items, fewer_than_nodes items)
