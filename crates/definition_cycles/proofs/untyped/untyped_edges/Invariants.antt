use Rattle.std.proofs.Common.{◌≡◌, ◌++◌, drop}
use Rattle.std.specs.List.{filter_map}
use Rattle.definition_cycles.specs.inner.Edges.{untyped_edge}
use Rattle.definition_cycles.proofs.untyped.untyped_edges.Given as goal

abbrev pub invariant-loop-mention : goal.invariant-loop-mention
invariant-loop-mention l = l.edges.items ++ filter_map (untyped_edge l.graph.firsts.items l.heads) (drop l.mention-index l.mention-items) ≡ filter_map (untyped_edge l.graph.firsts.items l.heads) l.mention-items
