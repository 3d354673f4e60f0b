use Rattle.std.proofs.Common.{◌≡◌, ℕ, ◌+◌, length, subst}
use Rattle.std.specs.Prelude.{◌↔◌, IfOk, IfErr}
use Rattle.flat_core.specs.System.{System}
use Rattle.translation_order.specs.inner.Answer.{OnCycle}
use Rattle.translation_order.specs.Cycle.{IsCycleOfWalk}
use Rattle.translation_order.specs.Order.{Before, IsLeastOrder}
use Rattle.alias_rules.specs.Conflict.{StandsBefore}
use Rattle.alias_rules.specs.Steps.{step_count}
use Rattle.last_use.proofs.Ordering.{order_for, acyclic_for, cycle_for, cyclic_for}
use Rattle.last_use.proofs.trial.ordered.Goals as goal

pub returns-clause-least : goal.returns-clause-least
returns-clause-least c =
    let s = c.args.flat.now in
    let counted : c.count.result + length c.outputs.result.now ≡ step_count s = λ k. c.count.ensures.count k + length (c.outputs.ensures k) in
    let exact = subst (λ (of : System). (a b : ℕ) → Before c.in_ok-pairs.pairs a b ↔ StandsBefore of c.args.set.now a b) c.requires.graph c.in_ok-pairs.ensures.exact in
    order_for (step_count s) c.in_ok-pairs.pairs (StandsBefore s c.args.set.now) exact c.order.result
    (subst (λ (n : ℕ). IfOk c.order.result (IsLeastOrder n (Before c.in_ok-pairs.pairs))) counted c.order.ensures.listed)

pub returns-clause-acyclic : goal.returns-clause-acyclic
returns-clause-acyclic c =
    let s = c.args.flat.now in
    let exact = subst (λ (of : System). (a b : ℕ) → Before c.in_ok-pairs.pairs a b ↔ StandsBefore of c.args.set.now a b) c.requires.graph c.in_ok-pairs.ensures.exact in
    acyclic_for (step_count s) c.in_ok-pairs.pairs (StandsBefore s c.args.set.now) exact c.order.result c.order.ensures.acyclic

pub returns-clause-cycle : goal.returns-clause-cycle
returns-clause-cycle c =
    let s = c.args.flat.now in
    let counted : c.count.result + length c.outputs.result.now ≡ step_count s = λ k. c.count.ensures.count k + length (c.outputs.ensures k) in
    let exact = subst (λ (of : System). (a b : ℕ) → Before c.in_ok-pairs.pairs a b ↔ StandsBefore of c.args.set.now a b) c.requires.graph c.in_ok-pairs.ensures.exact in
    cycle_for (step_count s) c.in_ok-pairs.pairs (StandsBefore s c.args.set.now) exact c.order.result
    (subst (λ (n : ℕ). IfErr c.order.result (OnCycle (IsCycleOfWalk n (Before c.in_ok-pairs.pairs)))) counted c.order.ensures.walked)

pub returns-clause-cyclic : goal.returns-clause-cyclic
returns-clause-cyclic c =
    let s = c.args.flat.now in
    let exact = subst (λ (of : System). (a b : ℕ) → Before c.in_ok-pairs.pairs a b ↔ StandsBefore of c.args.set.now a b) c.requires.graph c.in_ok-pairs.ensures.exact in
    cyclic_for (step_count s) c.in_ok-pairs.pairs (StandsBefore s c.args.set.now) exact c.order.result c.order.ensures.cyclic
