use Rattle.spec_parser.proofs.TurnLaws.{nothing_after, not_printed, printed_read}
use Rattle.spec_parser.proofs.item.after_expression.Goals as goal

pub returns-in-None : goal.returns-in-None
returns-in-None c = rw (nothing_after c.args.place (c.args.expression, c.args.alone) c.args.tokens.now c.in-None.ensures.cases) c.unprinted.ensures

pub returns-then-begins_printed_name : goal.returns-then-begins_printed_name
returns-then-begins_printed_name c = rw (printed_read c.args.place (c.args.expression, c.args.alone) c.in-Some.token.now c.in-Some.rest.now c.args.tokens.now c.in-Some.ensures.cases.0 c.if-begins_printed_name.ensures) c.printed.ensures

pub returns-else-begins_printed_name : goal.returns-else-begins_printed_name
returns-else-begins_printed_name c = rw (not_printed c.args.place (c.args.expression, c.args.alone) c.in-Some.token.now c.in-Some.rest.now c.args.tokens.now c.in-Some.ensures.cases.0 c.if-begins_printed_name.ensures) c.unprinted-else-begins_printed_name.ensures
