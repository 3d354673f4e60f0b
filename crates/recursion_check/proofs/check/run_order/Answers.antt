use Rattle.std.proofs.Common.{length, sym, subst}
use Rattle.translation_order.specs.Graph.{IsAcyclic}
use Rattle.translation_order.specs.inner.Answer.{OnCycle}
use Rattle.translation_order.specs.Order.{Before, AreOfSteps, IsLeastOrder}
use Rattle.translation_order.specs.Cycle.{IsCycle, IsCycleOfWalk}
use Rattle.recursion_check.proofs.FeedLemmas.{pairs, edges_of_steps, well_formed_from, cycle_from, walk_from, cyclic_from}
use Rattle.recursion_check.proofs.RunOrder.{run_order_from}
use Rattle.recursion_check.proofs.check.run_order.Goals as goal

pub order-requires : goal.order-requires
order-requires c =
    let s = c.args.flat.now in
    subst (λ n. AreOfSteps n c.in_ok-edges.edges) (sym c.count.ensures.count) (subst (AreOfSteps (length s.equations)) (sym c.in_ok-edges.ensures) (edges_of_steps s c.count.ensures.is_flat (length s.equations)))

pub returns-in-Ok-clause-well_formed : goal.returns-in-Ok-clause-well_formed
returns-in-Ok-clause-well_formed c =
    well_formed_from c.args.flat.now c.count.ensures.is_flat (subst (λ p. IsAcyclic (Before p)) c.in_ok-edges.ensures c.in-Ok.ensures.acyclic)

pub returns-in-Err-CycleOf-clause-cycle : goal.returns-in-Err-CycleOf-clause-cycle
returns-in-Err-CycleOf-clause-cycle c =
    let e = subst (OnCycle (IsCycle (Before c.in_ok-edges.edges))) c.in-Err-CycleOf.field-0-is c.in-Err-CycleOf.ensures.cycle in
    cycle_from c.args.flat.now c.count.ensures.is_flat c.in_ok-edges.edges c.in_ok-edges.ensures c.in-Err-CycleOf.steps e

pub returns-in-Err-CycleOf-clause-walked : goal.returns-in-Err-CycleOf-clause-walked
returns-in-Err-CycleOf-clause-walked c =
    let e = subst (OnCycle (IsCycleOfWalk c.count.result (Before c.in_ok-edges.edges))) c.in-Err-CycleOf.field-0-is c.in-Err-CycleOf.ensures.walked in
    walk_from c.args.flat.now c.count.ensures.is_flat c.count.result c.count.ensures.count c.in_ok-edges.edges c.in_ok-edges.ensures c.in-Err-CycleOf.steps e

pub returns-in-Err-CycleOf-clause-not_well_formed :
    goal.returns-in-Err-CycleOf-clause-not_well_formed
returns-in-Err-CycleOf-clause-not_well_formed c =
    let e = subst (OnCycle (IsCycle (Before c.in_ok-edges.edges))) c.in-Err-CycleOf.field-0-is c.in-Err-CycleOf.ensures.cycle in
    cyclic_from c.args.flat.now c.count.ensures.is_flat c.in_ok-edges.edges c.in_ok-edges.ensures c.in-Err-CycleOf.steps e

pub returns-in-Ok-clause-order : goal.returns-in-Ok-clause-order
returns-in-Ok-clause-order c =
    let s = c.args.flat.now in
    let flat = c.count.ensures.is_flat in
    run_order_from s flat c.in-Ok.steps
    (subst (λ n. IsLeastOrder n (Before (pairs s flat)) c.in-Ok.steps) c.count.ensures.count
    (subst (λ p. IsLeastOrder c.count.result (Before p) c.in-Ok.steps) c.in_ok-edges.ensures c.in-Ok.ensures.listed))
