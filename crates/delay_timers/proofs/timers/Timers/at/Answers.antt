use Rattle.std.proofs.Common.{◌∙◌}
use Rattle.delay_timers.proofs.ApartLemmas.{at_first, at_other}
use Rattle.delay_timers.proofs.timers.Timers.at.Goals as goal

pub returns-then-first-delay : goal.returns-then-first-delay
returns-then-first-delay c =
    let held = c.self.inside in
    at_first held.first held.others c.args.self.now c.self.view_is c.self.invariant.stands c.in-Some.first c.in-Some.is c.args.delay c.if-first-delay.true

pub returns-else-first-delay : goal.returns-else-first-delay
returns-else-first-delay c =
    let held = c.self.inside in
    c.at.ensures ∙ at_other held.first held.others c.args.self.now c.self.view_is c.self.invariant.stands c.in-Some.first c.in-Some.is c.args.delay c.if-first-delay.false
