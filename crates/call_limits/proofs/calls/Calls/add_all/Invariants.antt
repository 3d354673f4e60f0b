use Rattle.std.proofs.Common.{◌≡◌, ◌++◌, drop}
use Rattle.std.specs.List.{filter_map}
use Rattle.call_limits.specs.inner.Edges.{macro_call, function_call}
use Rattle.call_limits.proofs.calls.Calls.add_all.Given as goal

abbrev pub invariant-loop-mention : goal.invariant-loop-mention
invariant-loop-mention l = record {
  macros : l.self.macros.items ++ filter_map macro_call (drop l.mention-index l.mentions) ≡ l.initial.self.macros.items ++ filter_map macro_call l.mentions;
  functions : l.self.functions.items ++ filter_map function_call (drop l.mention-index l.mentions) ≡ l.initial.self.functions.items ++ filter_map function_call l.mentions;
}
