use Rattle.std.proofs.Common.{ℕ, ◌<◌, false, List, length, get_or, map, sym, subst}
use Rattle.syntax_tree.specs.Tree as tree
use Rattle.syntax_tree.specs.inner.OneLevel.{item_of}
use Rattle.translation_order.specs.OnCycle.{IsFirstOnCycle}
use Rattle.definition_cycles.specs.declared.found.Head.{Head}
use Rattle.definition_cycles.specs.Nodes.{HasFewNodes, nodes}
use Rattle.definition_cycles.specs.Mentions.{MentionsUntyped}
use Rattle.definition_cycles.specs.Cycles.{NeedsType, IsPlaceOfLeast}
use Rattle.definition_cycles.proofs.EdgeLemmas.{untyped_between, within_heads, first_untyped}
use Rattle.definition_cycles.proofs.CycleLemmas.{none_on_cycle, found_least, same_edges}
use Rattle.definition_cycles.proofs.kinds.find_untyped_cycle.Goals as goal

pub of_items-requires : goal.of_items-requires
of_items-requires c = subst HasFewNodes (sym c.items.ensures) c.requires

pub first_on_cycle-requires : goal.first_on_cycle-requires
first_on_cycle-requires c =
    let items = map item_of c.items.result.now in
    untyped_between items c.in_ok-untyped.untyped.count c.deref.result.now c.in_ok-untyped.ensures.count
    (same_edges (MentionsUntyped items) c.deref.result.now c.in_ok-untyped.untyped.edges.items c.deref.ensures.value c.in_ok-untyped.ensures.edges)

pub bounds-heads-node : goal.bounds-heads-node
bounds-heads-node c =
    let items = map item_of c.items.result.now in
    let edges = same_edges (MentionsUntyped items) c.deref.result.now c.in_ok-untyped.untyped.edges.items c.deref.ensures.value c.in_ok-untyped.ensures.edges in
    subst (λ l. c.in-Some.node < length l) (sym c.heads.ensures)
    (within_heads items c.in_ok-untyped.untyped.found.heads c.deref.result.now c.in-Some.node edges c.in_ok-untyped.ensures.heads
    (found_least c.deref.result.now c.in_ok-node.field-0 c.in-Some.node c.in-Some.is c.in_ok-node.ensures))

pub returns-in-Some : goal.returns-in-Some
returns-in-Some c =
    let items = map item_of c.items.result.now in
    let edges = same_edges (MentionsUntyped items) c.deref.result.now c.in_ok-untyped.untyped.edges.items c.deref.ensures.value c.in_ok-untyped.ensures.edges in
    let none : Head = record { place = record { line = 0; column = 0 }; is_written = false } in
    let P : List Head → Type 0 = λ l. IsPlaceOfLeast (NeedsType items) (map (λ n. n.place) (nodes items)) (get_or l c.in-Some.node none).place in
    let Q : List tree.Item → Type 0 = λ l. IsPlaceOfLeast (NeedsType l) (map (λ n. n.place) (nodes l)) (get_or c.heads.result.now c.in-Some.node none).place in
    subst Q c.items.ensures
    (subst P (sym c.heads.ensures)
    (first_untyped items c.in_ok-untyped.untyped.found.heads c.deref.result.now c.in-Some.node none edges c.in_ok-untyped.ensures.heads
    (found_least c.deref.result.now c.in_ok-node.field-0 c.in-Some.node c.in-Some.is c.in_ok-node.ensures)))

pub returns : goal.returns
returns c =
    let items = map item_of c.items.result.now in
    let edges = same_edges (MentionsUntyped items) c.deref.result.now c.in_ok-untyped.untyped.edges.items c.deref.ensures.value c.in_ok-untyped.ensures.edges in
    subst (λ l. (x : ℕ) → NeedsType l x → ⊥) c.items.ensures
    (none_on_cycle c.deref.result.now (MentionsUntyped items) edges (subst (IsFirstOnCycle c.deref.result.now) c.in-None.is c.in_ok-node.ensures))
