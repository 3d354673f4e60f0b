use Rattle.std.proofs.Common.{sym, ◌∙◌}
use Rattle.std.proofs.lemmas.Cmp.{ranked}
use Rattle.std.specs.declared.cmp.Ordering.TheVariants.{Less, Equal, Greater}
use Rattle.delay_timers.proofs.ApartLemmas.{is_first, first_is_taken, first_is_least_at, none_before_first, due_later, taken_later, stands_after}
use Rattle.delay_timers.proofs.timers.Timers.take_due.Goals as goal

pub invariant_of-self-in-Less : goal.invariant_of-self-in-Less
invariant_of-self-in-Less c =
    let held = c.self.inside in
    let taken = c.take_other.ensures in
    record {
      stands = stands_after held.first held.others c.args.self.now c.self.view_is c.self.invariant.stands c.take_other.result c.take_other.new.others taken.taken taken.none;
      clear = taken.clear;
      bounded = taken.bounded;
    }

pub returns-in-Equal-clause-due : goal.returns-in-Equal-clause-due
returns-in-Equal-clause-due c =
    let held = c.self.inside in
    let first = c.in-Some.first in
    first_is_least_at c.args.self.now.times first c.args.at (is_first held.first held.others c.args.self.now c.self.view_is c.self.invariant.stands first c.in-Some.is)
    (ranked first.time c.args.at Equal (sym c.in-Equal.is ∙ c.cmp.ensures))

pub returns-in-Equal-clause-taken : goal.returns-in-Equal-clause-taken
returns-in-Equal-clause-taken c =
    let held = c.self.inside in
    first_is_taken held.first held.others c.args.self.now c.self.view_is c.self.invariant.stands c.in-Some.first c.in-Some.is

pub returns-in-Greater-clause-due : goal.returns-in-Greater-clause-due
returns-in-Greater-clause-due c =
    let held = c.self.inside in
    let first = c.in-Some.first in
    none_before_first c.args.self.now.times first c.args.at (is_first held.first held.others c.args.self.now c.self.view_is c.self.invariant.stands first c.in-Some.is)
    (ranked first.time c.args.at Greater (sym c.in-Greater.is ∙ c.cmp.ensures))

pub returns-in-Less-clause-due : goal.returns-in-Less-clause-due
returns-in-Less-clause-due c =
    let held = c.self.inside in
    let first = c.in-Some.first in
    due_later held.first held.others c.args.self.now c.self.view_is c.self.invariant.stands first c.in-Some.is c.args.at
    (ranked first.time c.args.at Less (sym c.in-Less.is ∙ c.cmp.ensures)) c.take_other.result c.take_other.ensures.due

pub returns-in-Less-clause-taken : goal.returns-in-Less-clause-taken
returns-in-Less-clause-taken c =
    let held = c.self.inside in
    let first = c.in-Some.first in
    taken_later held.first held.others c.args.self.now c.self.view_is c.self.invariant.stands first c.in-Some.is c.args.at
    (ranked first.time c.args.at Less (sym c.in-Less.is ∙ c.cmp.ensures)) c.take_other.result c.take_other.new.others c.take_other.ensures.due c.take_other.ensures.taken
