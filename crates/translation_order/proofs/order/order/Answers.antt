use Rattle.translation_order.specs.Order.{Before}
use Rattle.translation_order.specs.Cycle.{IsCycle}
use Rattle.translation_order.proofs.Orders.{ordered_acyclic}
use Rattle.translation_order.proofs.Cycles.{walked_cycle, cycle_path}
use Rattle.translation_order.proofs.Takes.{first_low}
use Rattle.translation_order.proofs.Walks.{order_found, cycle_found}
use Rattle.translation_order.proofs.order.order.Goals as goal

pub returns-in-None-clause-listed : goal.returns-in-None-clause-listed
returns-in-None-clause-listed c =
    order_found c.args.steps c.args.edges.now c.as_slice.result.now c.in_ok-taken.taken.listed c.in_ok-taken.taken.waits.items c.as_slice-2.result.now c.requires c.as_slice.ensures c.as_slice-2.ensures.value c.in_ok-taken.ensures c.in-None.ensures

pub returns-in-None-clause-acyclic : goal.returns-in-None-clause-acyclic
returns-in-None-clause-acyclic c =
    ordered_acyclic c.args.steps (Before c.args.edges.now) (first_low c.args.steps c.args.edges.now c.requires) c.in_ok-taken.taken.listed
    (order_found c.args.steps c.args.edges.now c.as_slice.result.now c.in_ok-taken.taken.listed c.in_ok-taken.taken.waits.items c.as_slice-2.result.now c.requires c.as_slice.ensures c.as_slice-2.ensures.value c.in_ok-taken.ensures c.in-None.ensures)

pub returns-in_ok-cycle_from-in-Some-clause-walked :
    goal.returns-in_ok-cycle_from-in-Some-clause-walked
returns-in_ok-cycle_from-in-Some-clause-walked c =
    cycle_found c.args.steps c.args.edges.now c.as_slice.result.now c.as_slice-in-Some.result.now c.in_ok-taken.taken.listed c.in_ok-taken.taken.waits.items c.as_slice-2.result.now c.as_slice-in-Some-2.result.now c.in-Some.start c.in_ok-cycle_from-in-Some.field-0 c.requires c.as_slice.ensures c.as_slice-in-Some.ensures c.as_slice-2.ensures.value c.as_slice-in-Some-2.ensures.value c.in_ok-taken.ensures c.in-Some.ensures c.in_ok-cycle_from-in-Some.ensures

pub returns-in_ok-cycle_from-in-Some-clause-cycle :
    goal.returns-in_ok-cycle_from-in-Some-clause-cycle
returns-in_ok-cycle_from-in-Some-clause-cycle c =
    walked_cycle c.args.steps (Before c.args.edges.now) c.in_ok-cycle_from-in-Some.field-0
    (cycle_found c.args.steps c.args.edges.now c.as_slice.result.now c.as_slice-in-Some.result.now c.in_ok-taken.taken.listed c.in_ok-taken.taken.waits.items c.as_slice-2.result.now c.as_slice-in-Some-2.result.now c.in-Some.start c.in_ok-cycle_from-in-Some.field-0 c.requires c.as_slice.ensures c.as_slice-in-Some.ensures c.as_slice-2.ensures.value c.as_slice-in-Some-2.ensures.value c.in_ok-taken.ensures c.in-Some.ensures c.in_ok-cycle_from-in-Some.ensures)

pub returns-in_ok-cycle_from-in-Some-clause-cyclic :
    goal.returns-in_ok-cycle_from-in-Some-clause-cyclic
returns-in_ok-cycle_from-in-Some-clause-cyclic c =
    λ acyclic. let cycle : IsCycle (Before c.args.edges.now) c.in_ok-cycle_from-in-Some.field-0 = walked_cycle c.args.steps (Before c.args.edges.now) c.in_ok-cycle_from-in-Some.field-0
    (cycle_found c.args.steps c.args.edges.now c.as_slice.result.now c.as_slice-in-Some.result.now c.in_ok-taken.taken.listed c.in_ok-taken.taken.waits.items c.as_slice-2.result.now c.as_slice-in-Some-2.result.now c.in-Some.start c.in_ok-cycle_from-in-Some.field-0 c.requires c.as_slice.ensures c.as_slice-in-Some.ensures c.as_slice-2.ensures.value c.as_slice-in-Some-2.ensures.value c.in_ok-taken.ensures c.in-Some.ensures c.in_ok-cycle_from-in-Some.ensures) in
    acyclic cycle.first (cycle_path (Before c.args.edges.now) c.in_ok-cycle_from-in-Some.field-0 cycle)
