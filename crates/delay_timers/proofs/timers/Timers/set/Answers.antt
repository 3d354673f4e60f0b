use Rattle.std.proofs.Common.{sym, subst, ◌∙◌, ◌<◌}
use Rattle.delay_timers.specs.declared.tree.Due.{Due}
use Rattle.delay_timers.specs.inner.Pending.{Pending}
use Rattle.delay_timers.proofs.ApartLemmas.{alone, is_set_alone, asked_none}
use Rattle.delay_timers.proofs.timers.Timers.set.Goals as goal

pub invariant_of-self : goal.invariant_of-self
invariant_of-self c =
    let due : Due = record { time = c.args.at; delay = c.args.delay } in
    let there : c.args.delay < c.self.inside.others.capacity = subst (λ (p : Pending). c.args.delay < p.capacity) (sym c.self.view_is) c.requires in
    record {
      stands = alone due c.self.inside.others there (c.self.invariant.clear c.if-self.true);
      clear = c.self.invariant.clear;
      bounded = c.self.invariant.bounded;
    }

pub returns-then-is_none : goal.returns-then-is_none
returns-then-is_none c =
    let held = c.self.inside in
    let due : Due = record { time = c.args.at; delay = c.args.delay } in
    is_set_alone held.first held.others c.args.self.now c.self.view_is c.self.invariant.stands due (sym c.other_than.ensures ∙ asked_none c.other_than.result c.if-is_none.ensures)
