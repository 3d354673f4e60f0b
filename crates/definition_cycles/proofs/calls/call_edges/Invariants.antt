use Rattle.std.proofs.Common.{◌≡◌, ◌++◌, drop}
use Rattle.std.specs.List.{filter_map}
use Rattle.definition_cycles.specs.inner.Edges.{call_edge}
use Rattle.definition_cycles.proofs.calls.call_edges.Given as goal

abbrev pub invariant-loop-mention : goal.invariant-loop-mention
invariant-loop-mention l = l.edges.items ++ filter_map call_edge (drop l.mention-index l.mentions) ≡ filter_map call_edge l.mentions
