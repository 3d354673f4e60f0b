use Rattle.std.proofs.Common.{arith}
use Rattle.translation_order.proofs.SearchLists.{below_more}
use Rattle.translation_order.proofs.steps.Steps.below.Goals as goal

pub loop-node-preserved : goal.loop-node-preserved
loop-node-preserved c = below_more c.loop-node.numbers.items c.push.new.self.items c.loop-node.node c.loop-node.invariant c.in_ok-push.ensures.items

pub returns-clause-within : goal.returns-clause-within
returns-clause-within c = λ x h. let low = c.loop-node.invariant.0 x h in omega (arith, c.loop-node.auto.node-end)
