use Rattle.std.proofs.Common.{ℕ, subst, arith}
use Rattle.alias_paths.specs.inner.Pairs.{Adds, IsWanted}
use Rattle.alias_paths.proofs.Adding.{given_more}
use Rattle.alias_nears.proofs.Constraining.{GivesArgument, all_arguments}
use Rattle.alias_nears.proofs.steps.push_arguments.Goals as goal

pub loop-argument-preserved : goal.loop-argument-preserved
loop-argument-preserved c =
    given_more c.args.arguments.now (GivesArgument c.args.number c.args.runs) c.loop-argument.argument-index c.argument-item.result c.args.pairs.now c.loop-argument.pairs c.push_if.new.pairs c.loop-argument-test.true c.argument-item.is c.loop-argument.invariant
    (subst (λ (x : ℕ). Adds c.loop-argument.pairs (IsWanted c.args.runs x c.args.number) c.push_if.new.pairs) c.get.ensures c.in_ok-push_if.ensures)

pub returns : goal.returns
returns c = all_arguments c.args.number c.args.runs c.args.arguments.now c.loop-argument.argument-index c.args.pairs.now c.loop-argument.pairs (omega arith) c.loop-argument.invariant
