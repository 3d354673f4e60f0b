use Rattle.std.proofs.Common.{◌≡◌, ◌+◌, length, sym, ap, subst, ◌∙◌}
use Rattle.flat_core.specs.declared.equation.Output.{Output}
use Rattle.translation_order.specs.Graph.{IsAcyclic}
use Rattle.translation_order.specs.inner.Answer.{OnCycle}
use Rattle.translation_order.specs.Order.{Before, AreOfSteps, IsLeastOrder}
use Rattle.alias_rules.specs.Steps.{step_count}
use Rattle.register_code.proofs.PairLemmas.{pairs_of_steps}
use Rattle.register_code.proofs.PlanOrders.{copying_fine, least_of_all, no_cycle}
use Rattle.register_code.proofs.copying.all_ordered.Goals as goal

pub order-requires : goal.order-requires
order-requires c =
    let s = c.args.flat.now in
    let counted : step_count s ≡ c.count.result + length c.outputs.result.now = λ k. sym c.count.ensures.count k + length (sym c.outputs.ensures k) in
    subst (λ n. AreOfSteps n c.in_ok-edges.edges) counted (subst (AreOfSteps (step_count s)) (sym c.in_ok-edges.ensures) (pairs_of_steps s c.count.ensures.is_flat))

pub returns-in-Ok-clause-least : goal.returns-in-Ok-clause-least
returns-in-Ok-clause-least c =
    let s = c.args.flat.now in
    let counted : c.count.result + length c.outputs.result.now ≡ step_count s = λ k. c.count.ensures.count k + length (c.outputs.ensures k) in
    least_of_all s c.count.ensures.is_flat (c.count.result + length c.outputs.result.now) counted c.in_ok-edges.edges c.in_ok-edges.ensures c.in-Ok.all c.in-Ok.ensures.listed

pub returns-in-Ok-clause-fine : goal.returns-in-Ok-clause-fine
returns-in-Ok-clause-fine c =
    let s = c.args.flat.now in
    let counted : c.count.result + length c.outputs.result.now ≡ step_count s = λ k. c.count.ensures.count k + length (c.outputs.ensures k) in
    copying_fine s c.count.ensures.is_flat c.requires c.in-Ok.all
    (least_of_all s c.count.ensures.is_flat (c.count.result + length c.outputs.result.now) counted c.in_ok-edges.edges c.in_ok-edges.ensures c.in-Ok.all c.in-Ok.ensures.listed)

pub unreachable-requires : goal.unreachable-requires
unreachable-requires c =
    let cyclic = subst (OnCycle (λ _. IsAcyclic (Before c.in_ok-edges.edges) → ⊥)) c.in-Err-CycleOf.field-0-is c.in-Err-CycleOf.ensures.cyclic in
    cyclic (subst (λ p. IsAcyclic (Before p)) (sym c.in_ok-edges.ensures) (no_cycle c.args.flat.now c.count.ensures.is_flat c.requires))
