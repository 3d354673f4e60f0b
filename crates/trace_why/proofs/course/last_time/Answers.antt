use Rattle.std.proofs.Common.{sym, ◌∙◌}
use Rattle.trace_why.proofs.Courses.{last_line}
use Rattle.trace_why.proofs.course.last_time.Goals as goal

pub returns-in-Some : goal.returns-in-Some
returns-in-Some c = c.get.ensures.value ∙ sym (last_line c.args.lines.now c.in-Some.line.now (sym c.in-Some.ensures.value))
