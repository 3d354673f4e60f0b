use Rattle.std.proofs.Common.{sym, subst, ◌∙◌}
use Rattle.trace_why.specs.declared.course.Course.{Course}
use Rattle.trace_why.specs.inner.Course.{IsCourse}
use Rattle.trace_why.proofs.Courses.{course_of_run, open_goes_on}
use Rattle.trace_why.proofs.course.course_of.Goals as goal

pub returns-clause-course : goal.returns-clause-course
returns-clause-course c = λ s bytes ended whole formed run.
    subst (λ (x : Course). IsCourse s c.args.options c.args.question bytes ended x) (sym c.course_after.ensures)
    (course_of_run s whole formed c.args.options c.args.question bytes ended c.args.lines.now c.args.by c.last_time.result c.last_time.ensures run)

pub returns-clause-goes_on : goal.returns-clause-goes_on
returns-clause-goes_on c = λ is. open_goes_on c.args.by c.last_time.result c.args.options.until c.args.question.time (sym c.course_after.ensures ∙ is)
