use Rattle.std.proofs.Common.{arith}
use Rattle.alias_paths.proofs.Adding.{given_none}
use Rattle.alias_paths.proofs.Using.{IsOfArgument, argument_more, arguments_all}
use Rattle.alias_paths.proofs.uses.push_variables.Goals as goal

pub loop-argument-init : goal.loop-argument-init
loop-argument-init c = given_none c.args.arguments.now (IsOfArgument c.args.flat.now c.args.number) c.args.pairs.now

pub loop-argument-preserved : goal.loop-argument-preserved
loop-argument-preserved c =
    argument_more c.args.flat.now c.args.number c.args.arguments.now c.loop-argument.argument-index c.argument-item.result c.get.result c.is_variable.result c.args.pairs.now c.loop-argument.pairs c.push_if.new.pairs c.loop-argument-test.true c.argument-item.is c.get.ensures c.is_variable.ensures c.loop-argument.invariant c.in_ok-push_if.ensures

pub returns : goal.returns
returns c = arguments_all c.args.flat.now c.args.number c.args.arguments.now c.loop-argument.argument-index c.args.pairs.now c.loop-argument.pairs (omega arith) c.loop-argument.invariant
