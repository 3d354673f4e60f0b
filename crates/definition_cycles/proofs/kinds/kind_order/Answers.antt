use Rattle.std.proofs.Common.{List, map, IfOk, OnOk, IfErr, sym, subst}
use Rattle.std.proofs.lemmas.Result.{IfOk-weaker, IfErr-weaker, on_ok_weaker}
use Rattle.syntax_tree.specs.Tree as tree
use Rattle.syntax_tree.specs.inner.OneLevel.{item_of}
use Rattle.translation_order.specs.Order.{Before, IsLeastOrder}
use Rattle.translation_order.specs.Cycle.{IsCycle}
use Rattle.translation_order.specs.inner.Answer.{OnCycle}
use Rattle.definition_cycles.specs.Nodes.{HasFewNodes}
use Rattle.definition_cycles.specs.Mentions.{MentionsUntyped}
use Rattle.definition_cycles.specs.inner.Order.{IsKindOrder, Precedes, NoneNeedsType, SomeNeedsType}
use Rattle.definition_cycles.proofs.CycleLemmas.{same_edges}
use Rattle.definition_cycles.proofs.OrderLemmas.{pairs_of_steps, kind_order, kind_cycle, none_needs, some_needs, on_cycle}
use Rattle.definition_cycles.proofs.kinds.kind_order.Goals as goal

pub of_items-requires : goal.of_items-requires
of_items-requires c = subst HasFewNodes (sym c.items.ensures) c.requires

pub order-requires : goal.order-requires
order-requires c =
    let items = map item_of c.items.result.now in
    let edges = same_edges (MentionsUntyped items) c.deref.result.now c.in_ok-untyped.untyped.edges.items c.deref.ensures.value c.in_ok-untyped.ensures.edges in
    pairs_of_steps items c.deref.result.now c.in_ok-pairs.pairs edges c.in_ok-pairs.ensures c.in_ok-untyped.untyped.count c.in_ok-untyped.ensures.count

pub returns-clause-listed : goal.returns-clause-listed
returns-clause-listed c =
    let items = map item_of c.items.result.now in
    let edges = same_edges (MentionsUntyped items) c.deref.result.now c.in_ok-untyped.untyped.edges.items c.deref.ensures.value c.in_ok-untyped.ensures.edges in
    let P : List tree.Item → Type 0 = λ l. IfOk c.order.result (IsKindOrder l) in
    subst P c.items.ensures
    (IfOk-weaker c.order.result (IsLeastOrder c.in_ok-untyped.untyped.count (Before c.in_ok-pairs.pairs)) (IsKindOrder items)
    (λ order h. kind_order items c.deref.result.now c.in_ok-pairs.pairs edges c.in_ok-pairs.ensures c.in_ok-untyped.untyped.count order c.in_ok-untyped.ensures.count h) c.order.ensures.listed)

pub returns-clause-none : goal.returns-clause-none
returns-clause-none c =
    let items = map item_of c.items.result.now in
    let edges = same_edges (MentionsUntyped items) c.deref.result.now c.in_ok-untyped.untyped.edges.items c.deref.ensures.value c.in_ok-untyped.ensures.edges in
    let P : List tree.Item → Type 0 = λ l. OnOk c.order.result (NoneNeedsType l) in
    subst P c.items.ensures
    (on_ok_weaker c.order.result (none_needs items c.deref.result.now c.in_ok-pairs.pairs edges c.in_ok-pairs.ensures) c.order.ensures.acyclic)

pub returns-clause-cycle : goal.returns-clause-cycle
returns-clause-cycle c =
    let items = map item_of c.items.result.now in
    let edges = same_edges (MentionsUntyped items) c.deref.result.now c.in_ok-untyped.untyped.edges.items c.deref.ensures.value c.in_ok-untyped.ensures.edges in
    let P : List tree.Item → Type 0 = λ l. IfErr c.order.result (OnCycle (IsCycle (Precedes l))) in
    subst P c.items.ensures
    (IfErr-weaker c.order.result (OnCycle (IsCycle (Before c.in_ok-pairs.pairs))) (OnCycle (IsCycle (Precedes items)))
    (on_cycle (IsCycle (Before c.in_ok-pairs.pairs)) (IsCycle (Precedes items)) (kind_cycle items c.deref.result.now c.in_ok-pairs.pairs edges c.in_ok-pairs.ensures)) c.order.ensures.cycle)

pub returns-clause-some : goal.returns-clause-some
returns-clause-some c =
    let items = map item_of c.items.result.now in
    let edges = same_edges (MentionsUntyped items) c.deref.result.now c.in_ok-untyped.untyped.edges.items c.deref.ensures.value c.in_ok-untyped.ensures.edges in
    let P : List tree.Item → Type 0 = λ l. IfErr c.order.result (OnCycle (λ _. SomeNeedsType l)) in
    subst P c.items.ensures
    (IfErr-weaker c.order.result (OnCycle (IsCycle (Before c.in_ok-pairs.pairs))) (OnCycle (λ _. SomeNeedsType items))
    (on_cycle (IsCycle (Before c.in_ok-pairs.pairs)) (λ _. SomeNeedsType items) (some_needs items c.deref.result.now c.in_ok-pairs.pairs edges c.in_ok-pairs.ensures)) c.order.ensures.cycle)
