use Rattle.std.proofs.Common.{◌+◌, arith}
use Rattle.spec_parser.proofs.TurnLaws.{output_is}
use Rattle.spec_parser.proofs.item.output.Goals as goal

pub returns : goal.returns
returns c = rw (output_is c.args.room (c.args.room + 1) c.args.place c.args.tokens.now c.in_ok-expression.expression c.in_ok-expression.rest.now (omega arith) c.in_ok-expression.ensures) c.after_expression.ensures
