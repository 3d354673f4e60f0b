use Rattle.definition_cycles.proofs.CallLemmas.{small_call}
use Rattle.definition_cycles.proofs.calls.call_edge.Goals as goal

pub to_node-requires : goal.to_node-requires
to_node-requires c = (small_call c.args.mention.now c.in-Function.callee c.if-not-mention.false c.in-Function.is c.requires).0

pub to_node-requires-in-Function : goal.to_node-requires-in-Function
to_node-requires-in-Function c = (small_call c.args.mention.now c.in-Function.callee c.if-not-mention.false c.in-Function.is c.requires).1
