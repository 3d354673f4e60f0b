use Rattle.agenda.proofs.NextLemmas.{both_marked, marked_again}
use Rattle.agenda.proofs.marks.Agenda.mark.Goals as goal

pub returns-then-place-next : goal.returns-then-place-next
returns-then-place-next c =
    let held = c.self.inside in
    both_marked held.next held.bits c.args.self.now c.in-Some.next c.self.view_is c.in-Some.is c.args.place c.min.result c.max.result c.mark-then-place-next.new.self c.if-place-next.true c.min.ensures c.max.ensures c.mark-then-place-next.ensures

pub returns-else-place-next : goal.returns-else-place-next
returns-else-place-next c =
    let held = c.self.inside in
    marked_again held.next held.bits c.args.self.now c.in-Some.next c.self.view_is c.in-Some.is c.args.place c.if-place-next.false
