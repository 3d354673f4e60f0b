use Rattle.std.proofs.Common.{ℕ, subst}
use Rattle.translation_order.specs.Order.{AreOfSteps}
use Rattle.last_use.proofs.cycles.are_in_order.Goals as goal

pub rise-requires : goal.rise-requires
rise-requires c = subst (λ (n : ℕ). AreOfSteps n c.args.pairs.now) (c.has_each.ensures c.if-has_each.true) c.requires
