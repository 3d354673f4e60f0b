use Rattle.agenda.proofs.NextLemmas.{next_taken}
use Rattle.agenda.proofs.marks.Agenda.take_least.Goals as goal

pub returns-in-Some-clause-taken : goal.returns-in-Some-clause-taken
returns-in-Some-clause-taken c =
    let held = c.self.inside in
    next_taken held.next held.bits c.args.self.now c.in-Some.place c.self.view_is c.in-Some.is c.self.invariant.before
