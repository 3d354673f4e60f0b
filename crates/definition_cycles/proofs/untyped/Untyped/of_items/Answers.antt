use Rattle.std.proofs.Common.{ap, ◌∙◌, length, arith}
use Rattle.definition_cycles.proofs.EdgeLemmas.{untyped_edges, heads_are, heads_length}
use Rattle.syntax_tree.specs.inner.OneLevel.{item_of}
use Rattle.std.specs.Prelude.{map}
use Rattle.definition_cycles.proofs.untyped.Untyped.of_items.Goals as goal

pub untyped_edges-requires : goal.untyped_edges-requires
untyped_edges-requires c =
    let items = map item_of c.args.items.now in
    let all = heads_length items c.in_ok-graph.graph.found.heads (heads_are items c.in_ok-graph.graph.found c.in_ok-graph.ensures.found) in
    omega (arith, all, c.requires)

pub to_node-count-requires : goal.to_node-count-requires
to_node-count-requires c =
    let items = map item_of c.args.items.now in
    let all = heads_length items c.in_ok-graph.graph.found.heads (heads_are items c.in_ok-graph.graph.found c.in_ok-graph.ensures.found) in
    omega (arith, all, ap (λ l. length l) c.heads.ensures, c.requires)

pub returns : goal.returns
returns c =
    let items = map item_of c.args.items.now in
    let heads = heads_are items c.in_ok-graph.graph.found c.in_ok-graph.ensures.found in record {
      heads = heads;
      count = c.to_node-count.ensures ∙ ap (λ l. length l) c.heads.ensures ∙ heads_length items c.in_ok-graph.graph.found.heads heads;
      edges = untyped_edges items c.in_ok-graph.graph.firsts.items c.in_ok-graph.graph.found c.in_ok-edges.edges.items c.in_ok-graph.ensures.firsts c.in_ok-graph.ensures.found c.in_ok-edges.ensures;
    }
