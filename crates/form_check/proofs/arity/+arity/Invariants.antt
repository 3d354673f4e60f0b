use Rattle.std.proofs.Common.{◌≡◌, ◌+◌, ◌*◌, map, drop}
use Rattle.syntax_tree.specs.inner.OneLevel.{body_of, definition_of, definitions_of, item_of, size_of_definition, size_of_body, size_of_definitions}
use Rattle.name_check.specs.Scope.{seen}
use Rattle.name_check.specs.Faults.{first}
use Rattle.form_check.specs.inner.Steps.{wrong_in_locals}
use Rattle.form_check.proofs.arity.+arity.Given as goal

abbrev pub decreases-find_in_body : goal.decreases-find_in_body
decreases-find_in_body l = 4 * size_of_body (body_of l.body.now) + 1

abbrev pub decreases-find_in_block : goal.decreases-find_in_block
decreases-find_in_block l = 4 * size_of_definitions (definitions_of l.definitions.now) + 3

abbrev pub decreases-find_in_locals : goal.decreases-find_in_locals
decreases-find_in_locals l = 4 * size_of_definitions (definitions_of l.definitions.now) + 2

abbrev pub decreases-find_in_local : goal.decreases-find_in_local
decreases-find_in_local l = 4 * size_of_definition (definition_of l.parts.now)

abbrev pub invariant-find_in_locals-loop-definition : goal.invariant-find_in_locals-loop-definition
invariant-find_in_locals-loop-definition l = first (wrong_in_locals (map item_of l.items) (seen l.scope) (definitions_of (drop l.definition-index l.definitions))) ≡ first (wrong_in_locals (map item_of l.items) (seen l.scope) (definitions_of l.definitions))
