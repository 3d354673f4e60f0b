use Rattle.std.proofs.Common.{◌≡◌, ℕ, ◌+◌, List, None, length, subst}
use Rattle.std.specs.Prelude.{◌↔◌}
use Rattle.std.proofs.lemmas.Result.{IfOk-weaker}
use Rattle.flat_core.specs.System.{System}
use Rattle.translation_order.specs.Graph.{IsAcyclic}
use Rattle.translation_order.specs.Order.{Before}
use Rattle.alias_rules.specs.Conflict.{StandsBefore}
use Rattle.alias_rules.specs.Steps.{step_count}
use Rattle.last_use.specs.inner.Cycles.{IsCycleOrNone}
use Rattle.last_use.proofs.Rising.{cycle_for}
use Rattle.last_use.proofs.cycles.cycle_of.Goals as goal

pub returns-then-are_in_order : goal.returns-then-are_in_order
returns-then-are_in_order c =
    let s = c.args.flat.now in
    let pairs = c.in_ok-edges.edges in
    let exact = subst (λ (of : System). (a b : ℕ) → Before pairs a b ↔ StandsBefore of c.args.set.now a b) c.requires.graph c.in_ok-edges.ensures.exact in
    cycle_for (step_count s) (Before pairs) (StandsBefore s c.args.set.now) exact None (subst (λ (l : List (ℕ × ℕ)). IsAcyclic (Before l)) c.as_slice.ensures (c.are_in_order.ensures c.if-are_in_order.true))

pub returns : goal.returns
returns c =
    let s = c.args.flat.now in
    let pairs = c.in_ok-edges.edges in
    let E = StandsBefore s c.args.set.now in
    let counted : c.count.result + length c.outputs.result.now ≡ step_count s = λ k. c.count.ensures.count k + length (c.outputs.ensures k) in
    let exact = subst (λ (of : System). (a b : ℕ) → Before pairs a b ↔ StandsBefore of c.args.set.now a b) c.requires.graph c.in_ok-edges.ensures.exact in
    IfOk-weaker c.cycle_among.result (IsCycleOrNone (c.count.result + length c.outputs.result.now) (Before pairs)) (IsCycleOrNone (step_count s) E)
    (λ r h. cycle_for (step_count s) (Before pairs) E exact r (subst (λ (m : ℕ). IsCycleOrNone m (Before pairs) r) counted h)) c.cycle_among.ensures
