use Rattle.std.proofs.Common.{List, rules, length, sym, ap, ◌∙◌}
use Rattle.trigger_starts.specs.declared.rules.Rule.{Rule}
use Rattle.trigger_starts.proofs.Orders.{count}
use Rattle.trigger_formulas.proofs.Answering.{no_nodes}
use Rattle.trigger_formulas.proofs.nodes.Nodes.new.Goals as goal

pub invariant_of-result : goal.invariant_of-result
invariant_of-result c =
    no_nodes c.in_ok-diagrams.diagrams c.in_ok-nodes.nodes.items c.count.result (c.in_ok-nodes.ensures.items_if_clones_equal (search rules)) (c.count.ensures.count ∙ sym (ap (λ (l : List Rule). length l) c.in_ok-diagrams.ensures ∙ count c.args.flat.now))
