use Rattle.std.proofs.Common.{get_or, arith}
use Rattle.alias_paths.proofs.Adding.{read_again}
use Rattle.alias_nears.proofs.Constraining.{passer_more, passers_all}
use Rattle.alias_analysis.proofs.constraints.push_passers.Goals as goal

pub push_passer-requires-clause-marked : goal.push_passer-requires-clause-marked
push_passer-requires-clause-marked c = λ a h. c.loop-variable.invariant.kept a c.args.update (c.requires.marked a h)

pub loop-variable-preserved : goal.loop-variable-preserved
loop-variable-preserved c =
    let pairs = c.args.passed.now in
    let k = c.loop-variable.variable-index in
    passer_more c.args.marks.now c.args.update c.args.flat.now pairs k (get_or pairs k (0, 0)) c.args.pairs.now c.loop-variable.pairs c.push_passer.new.pairs c.loop-variable-test.true (read_again pairs k (0, 0) c.loop-variable-test.true) c.loop-variable.invariant c.in_ok-push_passer.ensures

pub returns : goal.returns
returns c = passers_all c.args.marks.now c.args.update c.args.flat.now c.args.passed.now c.loop-variable.variable-index c.args.pairs.now c.loop-variable.pairs (omega arith) c.loop-variable.invariant
