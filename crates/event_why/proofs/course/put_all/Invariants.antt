use Rattle.std.proofs.Common.{◌-◌}
use Rattle.event_why.proofs.CourseLemmas.{IsGoing}
use Rattle.event_why.proofs.course.put_all.Given as goal

abbrev pub invariant-loop-t : goal.invariant-loop-t
invariant-loop-t l = IsGoing l.story l.lines l.bound l.next l.place l.draft

abbrev pub decreases-loop-t : goal.decreases-loop-t
decreases-loop-t l = l.bound - l.next
