use Rattle.std.proofs.Common.{◌≡◌, map, ap, ◌∙◌}
use Rattle.std.specs.List.{filter_map}
use Rattle.std.proofs.lemmas.Result.{IfOk-weaker}
use Rattle.syntax_tree.specs.inner.OneLevel.{item_of}
use Rattle.definition_cycles.specs.Calls.{Calls}
use Rattle.definition_cycles.specs.inner.Edges.{AreEdges, call_edge}
use Rattle.definition_cycles.proofs.CallLemmas.{call_edges, small_calls}
use Rattle.definition_cycles.proofs.calls.calls.Goals as goal

pub call_edges-requires : goal.call_edges-requires
call_edges-requires c = small_calls (map item_of c.args.items.now) c.in_ok-graph.graph.found c.mentions.result.now c.requires c.in_ok-graph.ensures.found c.mentions.ensures

pub returns : goal.returns
returns c =
    IfOk-weaker c.call_edges.result (λ e. e.items ≡ filter_map call_edge c.mentions.result.now) (λ e. AreEdges (Calls (map item_of c.args.items.now)) e.items)
    (λ e h. call_edges (map item_of c.args.items.now) c.in_ok-graph.graph.found e.items c.in_ok-graph.ensures.found (h ∙ ap (filter_map call_edge) c.mentions.ensures))
    c.call_edges.ensures
