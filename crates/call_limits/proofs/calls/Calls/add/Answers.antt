use Rattle.std.proofs.Common.{ap}
use Rattle.call_limits.specs.inner.Edges.{function_of, macro_of}
use Rattle.call_limits.proofs.CallLemmas.{small_call}
use Rattle.call_limits.proofs.calls.Calls.add.Goals as goal

pub to_node-requires : goal.to_node-requires
to_node-requires c = (small_call macro_of c.args.mention.now c.in-Macro.callee c.if-not-mention.false (ap macro_of c.in-Macro.is) c.requires.0).0

pub to_node-requires-in-Macro : goal.to_node-requires-in-Macro
to_node-requires-in-Macro c = (small_call macro_of c.args.mention.now c.in-Macro.callee c.if-not-mention.false (ap macro_of c.in-Macro.is) c.requires.0).1

pub to_node-requires-in-Function : goal.to_node-requires-in-Function
to_node-requires-in-Function c = (small_call function_of c.args.mention.now c.in-Function.callee c.if-not-mention.false (ap function_of c.in-Function.is) c.requires.1).0

pub to_node-requires-in-Function-2 : goal.to_node-requires-in-Function-2
to_node-requires-in-Function-2 c = (small_call function_of c.args.mention.now c.in-Function.callee c.if-not-mention.false (ap function_of c.in-Function.is) c.requires.1).1
