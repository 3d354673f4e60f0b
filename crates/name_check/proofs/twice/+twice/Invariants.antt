use Rattle.std.proofs.Common.{◌≡◌, ◌+◌, ◌*◌, [], drop}
use Rattle.syntax_tree.specs.inner.OneLevel.{body_of, definition_of, definitions_of, size_of_definition, size_of_body, size_of_definitions}
use Rattle.name_check.specs.Faults.{first, twice_in_block}
use Rattle.name_check.specs.inner.Steps.{names_of}
use Rattle.name_check.proofs.twice.+twice.Given as goal

abbrev pub decreases-find_in_body : goal.decreases-find_in_body
decreases-find_in_body l = 4 * size_of_body (body_of l.body.now) + 1

abbrev pub decreases-find_in_block : goal.decreases-find_in_block
decreases-find_in_block l = 4 * size_of_definitions (definitions_of l.definitions.now) + 2

abbrev pub decreases-find_in_local : goal.decreases-find_in_local
decreases-find_in_local l = 4 * size_of_definition (definition_of l.parts.now)

abbrev pub invariant-find_in_block-loop-definition : goal.invariant-find_in_block-loop-definition
invariant-find_in_block-loop-definition l = first (twice_in_block (names_of l.before) (definitions_of (drop l.definition-index l.definitions))) ≡ first (twice_in_block [] (definitions_of l.definitions))
