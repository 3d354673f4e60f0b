use Rattle.std.proofs.Common.{arith}
use Rattle.alias_nears.proofs.Constraining.{marked_next, marked_all}
use Rattle.alias_nears.proofs.steps.push_marked.Goals as goal

pub loop-index-preserved : goal.loop-index-preserved
loop-index-preserved c = marked_next c.args.marks.now c.args.update c.loop-index.index c.args.pairs.now c.loop-index.pairs c.push_if.new.pairs c.loop-index.invariant c.in_ok-push_if.ensures

pub returns : goal.returns
returns c = marked_all c.args.marks.now c.args.update c.loop-index.index c.args.pairs.now c.loop-index.pairs (omega arith) c.loop-index.invariant
