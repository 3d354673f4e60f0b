use Rattle.std.proofs.Common.{◌≡◌, suc, ◌+◌, ◌*◌, length}
use Rattle.token_reader.specs.inner.Reader.{many, with_list}
use Rattle.spec_parser.specs.inner.Reading.{type_in, within, definitions_of, a_body, block}
use Rattle.syntax_tree.specs.inner.Joins.{join_definitions}
use Rattle.spec_parser.proofs.definition.+body.Given as goal

abbrev pub decreases-body : goal.decreases-body
decreases-body l = 8 * l.room + 1

abbrev pub decreases-block : goal.decreases-block
decreases-block l = 8 * l.room

abbrev pub decreases-in_block : goal.decreases-in_block
decreases-in_block l = 8 * l.room + 6

abbrev pub decreases-definitions : goal.decreases-definitions
decreases-definitions l = 8 * l.room + 5

abbrev pub decreases-inner_definition : goal.decreases-inner_definition
decreases-inner_definition l = 8 * l.room + 4

abbrev pub decreases-after_head : goal.decreases-after_head
decreases-after_head l = 8 * l.room + 3

abbrev pub decreases-defined : goal.decreases-defined
decreases-defined l = 8 * l.room + 2

abbrev pub invariant-definitions-definitions : goal.invariant-definitions-definitions
invariant-definitions-definitions l = with_list (join_definitions l.definitions.items) (many (definitions_of (type_in (suc l.room)) (a_body (block l.room) (within (suc l.room)))) l.rest) ≡ many (definitions_of (type_in (suc l.room)) (a_body (block l.room) (within (suc l.room)))) l.tokens

abbrev pub decreases-definitions-definitions : goal.decreases-definitions-definitions
decreases-definitions-definitions l = length l.rest
