use Rattle.std.proofs.Common.{rules, arith, ◌≡◌, ◌<◌, map, length, sym, subst, ◌∙◌}
use Rattle.std.proofs.lemmas.List.{length-map}
use Rattle.syntax_tree.specs.inner.OneLevel.{item_of}
use Rattle.definition_cycles.proofs.CountLemmas.{fewer_items}
use Rattle.call_limits.specs.Nesting.{IsTooDeep, deep_place}
use Rattle.call_limits.specs.inner.Depths.{IsFirst}
use Rattle.call_limits.proofs.GraphLemmas.{call_graph}
use Rattle.call_limits.proofs.PlaceLemmas.{deep_first, too_deep_within, first_place}
use Rattle.call_limits.proofs.deep.find_too_deep.Goals as goal

pub to_node-count-requires : goal.to_node-count-requires
to_node-count-requires c = let few = fewer_items (map item_of c.args.items.now) c.requires.few in omega (arith, few, length-map c.args.items.now item_of)

pub first_too_deep-requires : goal.first_too_deep-requires
first_too_deep-requires c =
    call_graph (map item_of c.args.items.now) c.to_node-count.result c.in_ok-calls.calls.macros.items c.in_ok-calls.calls.functions.items (c.to_node-count.ensures ∙ sym (length-map c.args.items.now item_of)) c.in_ok-calls.ensures.macros c.in_ok-calls.ensures.functions c.requires.macros c.requires.functions

pub offset_bounds-items-item : goal.offset_bounds-items-item
offset_bounds-items-item c =
    let items = map item_of c.args.items.now in
    let first = deep_first items c.in_ok-calls.calls.macros.items c.in_ok-calls.calls.functions.items c.in_ok-calls.ensures.macros c.in_ok-calls.ensures.functions c.in_ok-item.field-0 c.in_ok-item.ensures in
    let low : c.in-Some.item < length c.args.items.now = too_deep_within c.args.items.now c.in-Some.item (subst (IsFirst (IsTooDeep items)) c.in-Some.is first).holds in
    let small : c.to_node-count.result ≡ length c.args.items.now = c.to_node-count.ensures in
    search rules

pub bounds-items-item : goal.bounds-items-item
bounds-items-item c =
    let items = map item_of c.args.items.now in
    let first = deep_first items c.in_ok-calls.calls.macros.items c.in_ok-calls.calls.functions.items c.in_ok-calls.ensures.macros c.in_ok-calls.ensures.functions c.in_ok-item.field-0 c.in_ok-item.ensures in
    too_deep_within c.args.items.now c.in-Some.item (subst (IsFirst (IsTooDeep items)) c.in-Some.is first).holds

pub returns-in-Some : goal.returns-in-Some
returns-in-Some c =
    let items = map item_of c.args.items.now in
    let first = deep_first items c.in_ok-calls.calls.macros.items c.in_ok-calls.calls.functions.items c.in_ok-calls.ensures.macros c.in_ok-calls.ensures.functions c.in_ok-item.field-0 c.in_ok-item.ensures in
    let least = subst (IsFirst (IsTooDeep items)) c.in-Some.is first in
    first_place (IsTooDeep items) deep_place c.args.items.now c.in-Some.item c.index-items-item.result c.deep_place.result (too_deep_within c.args.items.now c.in-Some.item least.holds) c.index-items-item.is c.deep_place.ensures least

pub returns : goal.returns
returns c =
    let items = map item_of c.args.items.now in
    subst (IsFirst (IsTooDeep items)) c.in-None.is
    (deep_first items c.in_ok-calls.calls.macros.items c.in_ok-calls.calls.functions.items c.in_ok-calls.ensures.macros c.in_ok-calls.ensures.functions c.in_ok-item.field-0 c.in_ok-item.ensures)
