use Rattle.std.proofs.Common.{map, sym, subst, ◌∙◌, arith}
use Rattle.std.proofs.lemmas.List.{length-map}
use Rattle.syntax_tree.specs.inner.OneLevel.{item_of}
use Rattle.translation_order.specs.Order.{Before}
use Rattle.translation_order.specs.Cycle.{IsCycle}
use Rattle.translation_order.specs.inner.Answer.{OnCycle}
use Rattle.definition_cycles.specs.Calls.{Calls}
use Rattle.definition_cycles.proofs.CountLemmas.{fewer_items}
use Rattle.definition_cycles.proofs.CycleLemmas.{same_edges}
use Rattle.function_bodies.proofs.OrderLemmas.{pairs_of_items, call_order, no_cycle}
use Rattle.function_bodies.proofs.order.call_order.Goals as goal

pub to_node-count-requires : goal.to_node-count-requires
to_node-count-requires c = let few = fewer_items (map item_of c.args.items.now) c.requires.few in omega (arith, few, length-map c.args.items.now item_of)

pub order-requires : goal.order-requires
order-requires c =
    let items = map item_of c.args.items.now in
    let edges = same_edges (Calls items) c.deref.result.now c.in_ok-edges.edges.items c.deref.ensures.value c.in_ok-edges.ensures in
    pairs_of_items items c.deref.result.now c.in_ok-pairs.pairs edges c.in_ok-pairs.ensures c.to_node-count.result (c.to_node-count.ensures ∙ sym (length-map c.args.items.now item_of))

pub returns-in-Ok : goal.returns-in-Ok
returns-in-Ok c =
    let items = map item_of c.args.items.now in
    let edges = same_edges (Calls items) c.deref.result.now c.in_ok-edges.edges.items c.deref.ensures.value c.in_ok-edges.ensures in
    call_order items c.deref.result.now c.in_ok-pairs.pairs edges c.in_ok-pairs.ensures c.to_node-count.result c.in-Ok.steps (c.to_node-count.ensures ∙ sym (length-map c.args.items.now item_of)) c.in-Ok.ensures.listed

pub unreachable-requires : goal.unreachable-requires
unreachable-requires c =
    let items = map item_of c.args.items.now in
    let edges = same_edges (Calls items) c.deref.result.now c.in_ok-edges.edges.items c.deref.ensures.value c.in_ok-edges.ensures in
    no_cycle items c.deref.result.now c.in_ok-pairs.pairs edges c.in_ok-pairs.ensures c.requires.no_cycle c.in-Err-CycleOf.field-0-0 (subst (OnCycle (IsCycle (Before c.in_ok-pairs.pairs))) c.in-Err-CycleOf.field-0-is c.in-Err-CycleOf.ensures.cycle)
