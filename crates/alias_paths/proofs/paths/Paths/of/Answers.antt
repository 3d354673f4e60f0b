use Rattle.std.proofs.Common.{◌+◌, length, sym, subst}
use Rattle.translation_order.specs.Order.{AreOfSteps}
use Rattle.alias_rules.specs.Roots.{Carries}
use Rattle.alias_paths.specs.inner.Pairs.{ArePairs, AreTurned}
use Rattle.alias_paths.proofs.Rooting.{carriers_of_steps, turned_of_steps}
use Rattle.alias_paths.proofs.Sharers.{flows_of_steps}
use Rattle.alias_paths.proofs.paths.Paths.of.Goals as goal

pub of-requires : goal.of-requires
of-requires c =
    subst (λ m. AreOfSteps m c.in_ok-carriers.carriers) (sym c.count-count.ensures.count) (carriers_of_steps c.args.flat.now c.args.set.now c.in_ok-carriers.carriers c.in_ok-carriers.ensures)

pub of-requires-2 : goal.of-requires-2
of-requires-2 c =
    let n = length c.args.flat.now.equations in
    let carriers = c.in_ok-carriers.carriers in
    let back = c.in_ok-back.back in
    let turned = subst (λ l. AreTurned l back) c.as_slice.ensures c.in_ok-back.ensures in
    subst (λ m. AreOfSteps m back) (sym c.count-count.ensures.count) (turned_of_steps n carriers back turned (carriers_of_steps c.args.flat.now c.args.set.now carriers c.in_ok-carriers.ensures))

pub of-requires-3 : goal.of-requires-3
of-requires-3 c =
    let s = c.args.flat.now in
    let set = c.args.set.now in
    let flows = c.in_ok-flows.flows in
    let are = c.in_ok-flows.ensures set (subst (ArePairs (Carries s set)) (sym c.as_slice-2.ensures) c.in_ok-carriers.ensures) in
    subst (λ m. AreOfSteps (m + m) flows) (sym c.count-count.ensures.count) (flows_of_steps s set flows are)

pub of-requires-4 : goal.of-requires-4
of-requires-4 c =
    let s = c.args.flat.now in
    let set = c.args.set.now in
    let n = length s.equations in
    let flows = c.in_ok-flows.flows in
    let back = c.in_ok-flows_back.flows_back in
    let are = c.in_ok-flows.ensures set (subst (ArePairs (Carries s set)) (sym c.as_slice-2.ensures) c.in_ok-carriers.ensures) in
    let turned = subst (λ l. AreTurned l back) c.as_slice-3.ensures c.in_ok-flows_back.ensures in
    subst (λ m. AreOfSteps (m + m) back) (sym c.count-count.ensures.count) (turned_of_steps (n + n) flows back turned (flows_of_steps s set flows are))
