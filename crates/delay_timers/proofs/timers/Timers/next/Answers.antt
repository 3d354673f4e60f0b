use Rattle.std.proofs.Common.{sym, ap, subst, ◌∙◌}
use Rattle.delay_timers.specs.inner.Apart.{with_others}
use Rattle.delay_timers.specs.inner.Pending.{Pending, IsLeastTime}
use Rattle.delay_timers.proofs.ApartLemmas.{is_first, all_below_capacity, least_of_first}
use Rattle.delay_timers.proofs.timers.Timers.next.Goals as goal

pub returns-in-Some-clause-least : goal.returns-in-Some-clause-least
returns-in-Some-clause-least c =
    let held = c.self.inside in
    least_of_first c.args.self.now.times c.in-Some.first (is_first held.first held.others c.args.self.now c.self.view_is c.self.invariant.stands c.in-Some.first c.in-Some.is)

pub returns-in-Some-clause-bounded : goal.returns-in-Some-clause-bounded
returns-in-Some-clause-bounded c =
    let held = c.self.inside in
    all_below_capacity held.first held.others c.args.self.now c.self.view_is c.self.invariant.stands c.in-Some.first c.in-Some.is c.self.invariant.bounded

pub returns-in_ok-first-in-None-clause-least : goal.returns-in_ok-first-in-None-clause-least
returns-in_ok-first-in-None-clause-least c =
    let held = c.self.inside in
    let first = c.in_ok-first-in-None.first in
    let P : Pending → Type 0 = λ p. IsLeastTime p.times first.time in
    subst P (ap (λ x. with_others x held.others) (sym c.in-None.is) ∙ c.self.view_is) (least_of_first held.others.times first c.in_ok-first-in-None.ensures.first)
