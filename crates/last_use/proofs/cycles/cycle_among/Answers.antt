use Rattle.std.proofs.Common.{subst}
use Rattle.translation_order.specs.inner.Answer.{OnCycle}
use Rattle.translation_order.specs.Cycle.{IsCycleOfWalk}
use Rattle.translation_order.specs.Order.{Before}
use Rattle.last_use.proofs.cycles.cycle_among.Goals as goal

pub returns-in-Err-CycleOf : goal.returns-in-Err-CycleOf
returns-in-Err-CycleOf c =
    let walked = subst (OnCycle (IsCycleOfWalk c.args.count (Before c.args.pairs.now))) c.in-Err-CycleOf.field-0-is c.in-Err-CycleOf.ensures.walked in
    rw c.in-Err-CycleOf.field-0-is walked
