use Rattle.std.proofs.Common.{sym, subst}
use Rattle.flat_core.specs.inner.TypedLines.{AreTypedLines}
use Rattle.flat_core.specs.System.{System}
use Rattle.trace_why.specs.declared.course.Course.{Course}
use Rattle.trace_why.specs.inner.Course.{IsCourse}
use Rattle.trace_why.specs.inner.Lines.{IsCalm, IsTold}
use Rattle.trace_why.proofs.Concluding.{answered, calm, sorted_lines, typed_lines}
use Rattle.trace_why.proofs.monitor.conclude.Goals as goal

pub answer-requires-clause-sorted : goal.answer-requires-clause-sorted
answer-requires-clause-sorted c =
    let (bytes, ended, run) = c.requires.run in sorted_lines c.args.code.now.system c.args.options bytes ended c.args.lines.now run.lines_are

pub answer-requires-clause-typed : goal.answer-requires-clause-typed
answer-requires-clause-typed c =
    let (bytes, ended, run) = c.requires.run in
    subst (λ (s : System). AreTypedLines s c.args.lines.now) (sym c.flat.ensures.flat)
    (typed_lines c.args.code.now.system c.args.options bytes ended c.args.lines.now run.lines_are)

pub answer-requires-clause-calm : goal.answer-requires-clause-calm
answer-requires-clause-calm c =
    let (bytes, ended, run) = c.requires.run in
    let s = c.args.code.now.system in
    let o = c.args.options in
    let q = c.args.question in
    let whole = c.assert_whole.ensures.is_flat in
    let closed = subst (λ (x : Course). IsCourse s o q bytes ended x) c.in-Closed.is (c.course_of.ensures.course s bytes ended whole c.requires.well_formed run) in
    subst (λ (s : System). IsCalm s c.args.lines.now q.time) (sym c.flat.ensures.flat)
    (calm s whole c.requires.well_formed o q bytes ended closed c.args.lines.now run.lines_are)

pub returns-in_ok-answer-in-Closed-clause-answer : goal.returns-in_ok-answer-in-Closed-clause-answer
returns-in_ok-answer-in-Closed-clause-answer c = λ bytes ended run.
    let s = c.args.code.now.system in
    let o = c.args.options in
    let q = c.args.question in
    let whole = c.assert_whole.ensures.is_flat in
    let closed = subst (λ (x : Course). IsCourse s o q bytes ended x) c.in-Closed.is (c.course_of.ensures.course s bytes ended whole c.requires.well_formed run) in
    answered s whole c.requires.well_formed o q bytes ended closed c.args.lines.now run.lines_are c.in_ok-answer-in-Closed.field-0
    (subst (λ (s : System). IsTold s c.args.lines.now q c.in_ok-answer-in-Closed.field-0) c.flat.ensures.flat c.in_ok-answer-in-Closed.ensures)
