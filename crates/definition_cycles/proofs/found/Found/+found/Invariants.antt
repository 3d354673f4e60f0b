use Rattle.std.proofs.Common.{◌≡◌, ◌+◌, ◌*◌, drop}
use Rattle.syntax_tree.specs.inner.OneLevel.{definition_of, definitions_of, size_of_definition, size_of_definitions}
use Rattle.syntax_tree.specs.Counts.{counts}
use Rattle.name_check.specs.Scope.{seen}
use Rattle.definition_cycles.specs.Nodes.{block_nodes}
use Rattle.definition_cycles.specs.inner.Walk.{with_nodes}
use Rattle.definition_cycles.proofs.found.Found.+found.Given as goal

abbrev pub decreases-add_definition : goal.decreases-add_definition
decreases-add_definition l = 4 * size_of_definition (definition_of l.parts.now)

abbrev pub decreases-add_block : goal.decreases-add_block
decreases-add_block l = 4 * size_of_definitions (definitions_of l.definitions.now) + 2

abbrev pub invariant-add_block-loop-definition : goal.invariant-add_block-loop-definition
invariant-add_block-loop-definition l = record {
  added : with_nodes l.self (block_nodes l.item l.number (seen l.scope) (definitions_of (drop l.definition-index l.definitions))) ≡ with_nodes l.initial.self (block_nodes l.item l.first (seen l.scope) (definitions_of l.definitions));
  counted : l.number + counts (definitions_of (drop l.definition-index l.definitions)) ≡ l.first + counts (definitions_of l.definitions);
}
