use Rattle.std.proofs.Common.{List, rules, subst, sym, ◌∙◌}
use Rattle.trigger_starts.specs.declared.rules.Rule.{Rule}
use Rattle.trigger_starts.specs.inner.Kept.{IsOrder}
use Rattle.trigger_diagram.proofs.Keeping.{kept_new, order_told}
use Rattle.trigger_diagram.proofs.diagrams.Diagrams.new.Goals as goal

pub starts-requires-clause-ordered : goal.starts-requires-clause-ordered
starts-requires-clause-ordered c =
    subst (λ (rs : List Rule). IsOrder rs c.as_slice-2.result.now) (sym (c.deref.ensures.value ∙ c.in_ok-rules.ensures.exact))
    (order_told c.args.flat.now c.args.order.now c.as_slice-2.result.now (c.as_slice-2.ensures.value ∙ c.in_ok-order.ensures.items ∙ c.as_slice.ensures) c.requires)

pub invariant_of-result : goal.invariant_of-result
invariant_of-result c =
    kept_new c.args.flat.now c.in_ok-rules.rules.items c.deref.result.now c.in_ok-order.order.items c.in_ok-starts.starts.items c.new.result c.in_ok-nodes.nodes.items c.len.result c.in_ok-rules.ensures.exact c.in_ok-rules.ensures.closed
    (order_told c.args.flat.now c.args.order.now c.in_ok-order.order.items (c.in_ok-order.ensures.items ∙ c.as_slice.ensures) c.requires)
    c.deref.ensures.value c.in_ok-starts.ensures.one_each c.in_ok-starts.ensures.exact c.new.ensures (c.in_ok-nodes.ensures.items_if_clones_equal (search rules)) (search rules)
