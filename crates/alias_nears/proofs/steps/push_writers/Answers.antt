use Rattle.std.proofs.Common.{get_or, refl, arith}
use Rattle.alias_nears.specs.inner.Constraints.{WritesMarked}
use Rattle.alias_paths.proofs.Adding.{read_again}
use Rattle.alias_nears.proofs.Constraining.{taker_more, writers_all}
use Rattle.alias_nears.proofs.steps.push_writers.Goals as goal

pub loop-variable-preserved : goal.loop-variable-preserved
loop-variable-preserved c =
    let pairs = c.args.written.now in
    let marks = c.args.marks.now in
    let k = c.loop-variable.variable-index in
    let p = get_or pairs k (0, 0) in
    taker_more marks c.args.update pairs (WritesMarked marks c.args.update) k c.args.update p c.writes_marked-wanted.result c.args.pairs.now c.loop-variable.pairs c.push_if.new.pairs c.loop-variable-test.true (read_again pairs k (0, 0) c.loop-variable-test.true) refl c.writes_marked-wanted.ensures c.loop-variable.invariant c.in_ok-push_if.ensures

pub returns : goal.returns
returns c = writers_all c.args.marks.now c.args.update c.args.written.now c.loop-variable.variable-index c.args.pairs.now c.loop-variable.pairs (omega arith) c.loop-variable.invariant
