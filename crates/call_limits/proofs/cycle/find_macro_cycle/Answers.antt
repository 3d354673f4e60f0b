use Rattle.std.proofs.Common.{map, sym, subst, ◌∙◌, arith}
use Rattle.std.proofs.lemmas.List.{length-map}
use Rattle.syntax_tree.specs.inner.OneLevel.{item_of}
use Rattle.translation_order.specs.OnCycle.{IsFirstOnCycle}
use Rattle.definition_cycles.proofs.CountLemmas.{fewer_items}
use Rattle.definition_cycles.proofs.CycleLemmas.{none_on_cycle, found_least, same_edges}
use Rattle.call_limits.specs.Nesting.{CallsMacro}
use Rattle.call_limits.proofs.GraphLemmas.{macros_between}
use Rattle.call_limits.proofs.PlaceLemmas.{cycle_within, first_on_cycle}
use Rattle.call_limits.proofs.cycle.find_macro_cycle.Goals as goal

pub to_node-count-requires : goal.to_node-count-requires
to_node-count-requires c = let few = fewer_items (map item_of c.args.items.now) c.requires in omega (arith, few, length-map c.args.items.now item_of)

pub first_on_cycle-requires : goal.first_on_cycle-requires
first_on_cycle-requires c =
    let items = map item_of c.args.items.now in
    macros_between items c.to_node-count.result c.deref.result.now (c.to_node-count.ensures ∙ sym (length-map c.args.items.now item_of))
    (same_edges (CallsMacro items) c.deref.result.now c.in_ok-calls.calls.macros.items c.deref.ensures.value c.in_ok-calls.ensures.macros)

pub bounds-items-item : goal.bounds-items-item
bounds-items-item c =
    cycle_within c.args.items.now c.deref.result.now c.in-Some.item
    (same_edges (CallsMacro (map item_of c.args.items.now)) c.deref.result.now c.in_ok-calls.calls.macros.items c.deref.ensures.value c.in_ok-calls.ensures.macros)
    (found_least c.deref.result.now c.in_ok-item.field-0 c.in-Some.item c.in-Some.is c.in_ok-item.ensures)

pub returns-in-Some : goal.returns-in-Some
returns-in-Some c =
    first_on_cycle c.args.items.now c.deref.result.now c.in-Some.item c.index-items-item.result c.deep_place.result
    (same_edges (CallsMacro (map item_of c.args.items.now)) c.deref.result.now c.in_ok-calls.calls.macros.items c.deref.ensures.value c.in_ok-calls.ensures.macros)
    c.index-items-item.is c.deep_place.ensures
    (found_least c.deref.result.now c.in_ok-item.field-0 c.in-Some.item c.in-Some.is c.in_ok-item.ensures)

pub returns : goal.returns
returns c =
    let items = map item_of c.args.items.now in
    none_on_cycle c.deref.result.now (CallsMacro items)
    (same_edges (CallsMacro items) c.deref.result.now c.in_ok-calls.calls.macros.items c.deref.ensures.value c.in_ok-calls.ensures.macros)
    (subst (IsFirstOnCycle c.deref.result.now) c.in-None.is c.in_ok-item.ensures)
