use Rattle.std.proofs.Common.{◌≡◌, ◌+◌, ◌*◌, ◌++◌, take}
use Rattle.syntax_tree.specs.inner.OneLevel.{body_of, definition_of, definitions_of, size_of_definition, size_of_body, size_of_definitions}
use Rattle.spec_printer.specs.inner.Marks.{text_of}
use Rattle.spec_printer.specs.inner.Print.{definitions_marks}
use Rattle.spec_printer.proofs.definition.+definitions.Given as goal

abbrev pub decreases-put_definition : goal.decreases-put_definition
decreases-put_definition l = 4 * size_of_definition l.definition.now + 1

abbrev pub decreases-put_parts : goal.decreases-put_parts
decreases-put_parts l = 4 * size_of_definition (definition_of l.parts.now)

abbrev pub decreases-put_body : goal.decreases-put_body
decreases-put_body l = 4 * size_of_body (body_of l.body.now) + 1

abbrev pub decreases-put_block : goal.decreases-put_block
decreases-put_block l = 4 * size_of_definitions (definitions_of l.definitions.now) + 3

abbrev pub decreases-put_definitions : goal.decreases-put_definitions
decreases-put_definitions l = 4 * size_of_definitions (definitions_of l.definitions.now) + 2

abbrev pub invariant-put_definitions-loop-definition : goal.invariant-put_definitions-loop-definition
invariant-put_definitions-loop-definition l = l.out ≡ l.initial.out ++ text_of (definitions_marks (definitions_of (take l.definition-index l.definitions)))
