use Rattle.std.proofs.Common.{◌≡◌, ◌++◌, map, length, drop}
use Rattle.syntax_tree.specs.inner.OneLevel.{item_of}
use Rattle.name_check.specs.Scope.{top}
use Rattle.definition_cycles.specs.Nodes.{nodes, nodes_from}
use Rattle.definition_cycles.specs.inner.Walk.{with_nodes, nothing_kept, firsts_from}
use Rattle.definition_cycles.proofs.graph.Graph.of_items.Given as goal

abbrev pub invariant-loop-number : goal.invariant-loop-number
invariant-loop-number l = record {
  firsts : l.firsts.items ++ firsts_from (length l.found.heads) (map item_of (drop l.number l.items)) ≡ firsts_from 0 (map item_of l.items);
  found : with_nodes l.found (nodes_from l.number (top (map item_of l.items)) (map item_of (drop l.number l.items))) ≡ with_nodes nothing_kept (nodes (map item_of l.items));
}
