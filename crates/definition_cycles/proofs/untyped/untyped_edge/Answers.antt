use Rattle.std.proofs.Common.{sym, ◌∙◌, arith}
use Rattle.definition_cycles.proofs.EdgeLemmas.{unknown_edge, untyped_within}
use Rattle.definition_cycles.proofs.untyped.untyped_edge.Goals as goal

pub to_node-requires : goal.to_node-requires
to_node-requires c =
    let low = untyped_within c.args.heads.now c.args.mention.now.node (sym c.is_untyped.ensures ∙ c.if-is_untyped.true) in omega (arith, low)

pub to_node-requires-then-is_untyped-2 : goal.to_node-requires-then-is_untyped-2
to_node-requires-then-is_untyped-2 c =
    let low = untyped_within c.args.heads.now c.in-Some.node (sym c.is_untyped-then-is_untyped.ensures ∙ c.if-is_untyped-2.true) in omega (arith, low)

pub returns-in-None : goal.returns-in-None
returns-in-None c = unknown_edge c.args.firsts.now c.args.heads.now c.args.mention.now c.requires c.in-None.ensures
