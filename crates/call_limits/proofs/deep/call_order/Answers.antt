use Rattle.std.proofs.Common.{ℕ, List, sym, subst}
use Rattle.translation_order.specs.Graph.{IsAcyclic}
use Rattle.translation_order.specs.Order.{Before, AreOfSteps, IsLeastOrder}
use Rattle.translation_order.specs.inner.Answer.{OnCycle}
use Rattle.call_limits.proofs.GraphLemmas.{both_turned, pairs_of_items, pairs_acyclic, after_called}
use Rattle.call_limits.proofs.deep.call_order.Goals as goal

pub order-requires : goal.order-requires
order-requires c =
    let pairs = both_turned c.args.calls.now.macros.items c.args.calls.now.functions.items c.deref.result.now c.deref-2.result.now c.new-pairs.result c.add_turned.new.pairs c.add_turned-2.new.pairs c.deref.ensures.value c.deref-2.ensures.value c.new-pairs.ensures c.in_ok-add_turned.ensures c.in_ok-add_turned-2.ensures in
    let P : List (ℕ × ℕ) → Type 0 = λ l. AreOfSteps c.args.count l in
    subst P (sym pairs) (pairs_of_items c.args.count c.args.calls.now.macros.items c.args.calls.now.functions.items c.requires)

pub returns-in-Ok : goal.returns-in-Ok
returns-in-Ok c =
    let pairs = both_turned c.args.calls.now.macros.items c.args.calls.now.functions.items c.deref.result.now c.deref-2.result.now c.new-pairs.result c.add_turned.new.pairs c.add_turned-2.new.pairs c.deref.ensures.value c.deref-2.ensures.value c.new-pairs.ensures c.in_ok-add_turned.ensures c.in_ok-add_turned-2.ensures in
    let P : List (ℕ × ℕ) → Type 0 = λ l. IsLeastOrder c.args.count (Before l) c.in-Ok.steps in
    after_called c.args.count c.args.calls.now.macros.items c.args.calls.now.functions.items c.requires c.in-Ok.steps (subst P pairs c.in-Ok.ensures.listed)

pub unreachable-requires : goal.unreachable-requires
unreachable-requires c =
    let pairs = both_turned c.args.calls.now.macros.items c.args.calls.now.functions.items c.deref.result.now c.deref-2.result.now c.new-pairs.result c.add_turned.new.pairs c.add_turned-2.new.pairs c.deref.ensures.value c.deref-2.ensures.value c.new-pairs.ensures c.in_ok-add_turned.ensures c.in_ok-add_turned-2.ensures in
    let P : List (ℕ × ℕ) → Type 0 = λ l. IsAcyclic (Before l) in
    let cyclic : P c.add_turned-2.new.pairs → ⊥ = subst (OnCycle (λ _. P c.add_turned-2.new.pairs → ⊥)) c.in-Err-CycleOf.field-0-is c.in-Err-CycleOf.ensures.cyclic in
    cyclic (subst P (sym pairs) (pairs_acyclic c.args.count c.args.calls.now.macros.items c.args.calls.now.functions.items c.requires))
