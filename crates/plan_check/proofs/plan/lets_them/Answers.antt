use Rattle.std.proofs.Common.{ℕ, subst}
use Rattle.std.specs.Prelude.{◌↔◌}
use Rattle.std.proofs.lemmas.Result.{IfOk-weaker}
use Rattle.flat_core.specs.System.{System}
use Rattle.translation_order.specs.Order.{Before}
use Rattle.alias_rules.specs.Conflict.{StandsBefore}
use Rattle.plan_check.proofs.Ordering.{same_order}
use Rattle.plan_check.proofs.plan.lets_them.Goals as goal

pub returns : goal.returns
returns c =
    let s = c.args.flat.now in
    let set = c.args.plan.now.in_place in
    let pairs = c.in_ok-pairs.pairs in
    let exact = subst (λ (of : System). (a b : ℕ) → Before pairs a b ↔ StandsBefore of set a b) c.requires.graph c.in_ok-pairs.ensures.exact in
    IfOk-weaker c.is_order.result _ _ (λ r so. same_order s (Before pairs) (StandsBefore s set) c.args.plan.now.order exact r so) c.is_order.ensures
