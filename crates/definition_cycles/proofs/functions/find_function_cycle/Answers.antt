use Rattle.std.proofs.Common.{ℕ, ◌<◌, List, map, length, sym, ap, subst, ◌∙◌, arith}
use Rattle.std.proofs.lemmas.List.{length-map}
use Rattle.syntax_tree.specs.Tree as tree
use Rattle.syntax_tree.specs.inner.OneLevel.{item_of, items_of}
use Rattle.translation_order.specs.OnCycle.{IsFirstOnCycle}
use Rattle.definition_cycles.specs.Nodes.{HasFewNodes}
use Rattle.definition_cycles.specs.Calls.{Calls, name_place}
use Rattle.definition_cycles.specs.Cycles.{FunctionCycle, IsPlaceOfLeast}
use Rattle.definition_cycles.proofs.CallLemmas.{calls_between, within_items, first_call}
use Rattle.definition_cycles.proofs.CountLemmas.{fewer_items}
use Rattle.definition_cycles.proofs.CycleLemmas.{none_on_cycle, found_least, same_edges}
use Rattle.definition_cycles.proofs.functions.find_function_cycle.Goals as goal

pub to_node-count-requires : goal.to_node-count-requires
to_node-count-requires c =
    let few = fewer_items (items_of c.args.tree.now) c.requires in
    omega (arith, few, ap (λ l. length l) c.items-items.ensures, length-map c.items-items.result.now item_of)

pub calls-requires : goal.calls-requires
calls-requires c = subst HasFewNodes (sym c.items-items.ensures) c.requires

pub first_on_cycle-requires : goal.first_on_cycle-requires
first_on_cycle-requires c =
    let items = map item_of c.items-items.result.now in
    calls_between items c.to_node-count.result c.deref.result.now (c.to_node-count.ensures ∙ sym (length-map c.items-items.result.now item_of))
    (same_edges (Calls items) c.deref.result.now c.in_ok-edges.edges.items c.deref.ensures.value c.in_ok-edges.ensures)

pub bounds-items-item : goal.bounds-items-item
bounds-items-item c =
    let items = map item_of c.items-items.result.now in
    subst (λ n. c.in-Some.item < n) (length-map c.items-items.result.now item_of)
    (within_items items c.deref.result.now c.in-Some.item
    (same_edges (Calls items) c.deref.result.now c.in_ok-edges.edges.items c.deref.ensures.value c.in_ok-edges.ensures)
    (found_least c.deref.result.now c.in_ok-item.field-0 c.in-Some.item c.in-Some.is c.in_ok-item.ensures))

pub returns-in-Some : goal.returns-in-Some
returns-in-Some c =
    let items = map item_of c.items-items.result.now in
    let P : List tree.Item → Type 0 = λ l. IsPlaceOfLeast (FunctionCycle l) (map name_place l) c.name_place.result in
    subst P c.items-items.ensures
    (first_call c.items-items.result.now c.deref.result.now c.in-Some.item c.index-items-item.result c.name_place.result
    (same_edges (Calls items) c.deref.result.now c.in_ok-edges.edges.items c.deref.ensures.value c.in_ok-edges.ensures)
    c.index-items-item.is c.name_place.ensures
    (found_least c.deref.result.now c.in_ok-item.field-0 c.in-Some.item c.in-Some.is c.in_ok-item.ensures))

pub returns : goal.returns
returns c =
    let items = map item_of c.items-items.result.now in
    subst (λ l. (x : ℕ) → FunctionCycle l x → ⊥) c.items-items.ensures
    (none_on_cycle c.deref.result.now (Calls items) (same_edges (Calls items) c.deref.result.now c.in_ok-edges.edges.items c.deref.ensures.value c.in_ok-edges.ensures) (subst (IsFirstOnCycle c.deref.result.now) c.in-None.is c.in_ok-item.ensures))
