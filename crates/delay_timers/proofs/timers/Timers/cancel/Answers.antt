use Rattle.delay_timers.proofs.ApartLemmas.{is_cancelled, stands_cancelled, gone_of_none}
use Rattle.delay_timers.proofs.timers.Timers.cancel.Goals as goal

pub invariant_of-self : goal.invariant_of-self
invariant_of-self c =
    let held = c.self.inside in
    record {
      stands = stands_cancelled held.first held.others c.args.self.now c.self.view_is c.self.invariant.stands c.args.delay c.other_than-self-inside.result c.cancel.new.self c.other_than-self-inside.ensures c.cancel.ensures;
      clear = c.is_empty-self-inside.ensures.empty;
      bounded = c.is_empty-self-inside.ensures.bounded;
    }

pub returns-then-not-self : goal.returns-then-not-self
returns-then-not-self c =
    let held = c.self.inside in
    is_cancelled held.first held.others c.args.self.now c.self.view_is c.self.invariant.stands c.args.delay c.other_than-self-inside.result c.cancel.new.self c.other_than-self-inside.ensures c.cancel.ensures

pub invariant_of-self-else-not-self : goal.invariant_of-self-else-not-self
invariant_of-self-else-not-self c =
    let held = c.self.inside in
    record {
      stands = stands_cancelled held.first held.others c.args.self.now c.self.view_is c.self.invariant.stands c.args.delay c.other_than-self-inside.result held.others c.other_than-self-inside.ensures
          (gone_of_none held.others c.args.delay (c.self.invariant.clear c.if-not-self.false));
      clear = c.self.invariant.clear;
      bounded = c.self.invariant.bounded;
    }

pub returns-else-not-self : goal.returns-else-not-self
returns-else-not-self c =
    let held = c.self.inside in
    is_cancelled held.first held.others c.args.self.now c.self.view_is c.self.invariant.stands c.args.delay c.other_than-self-inside.result held.others c.other_than-self-inside.ensures
    (gone_of_none held.others c.args.delay (c.self.invariant.clear c.if-not-self.false))
