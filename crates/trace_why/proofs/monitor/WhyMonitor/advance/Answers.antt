use Rattle.std.proofs.Common.{◌≡◌, ◌++◌, Bool, None, Ok, Option, Result, IfOk, ap, sym, subst, ◌∙◌}
use Rattle.trace_monitor.proofs.Taking.{if_ok}
use Rattle.trace_monitor.specs.Next.{is_nothing}
use Rattle.trace_reader.specs.inner.Reads.{Reads}
use Rattle.tsl_value.specs.declared.memory.NoMemory.{NoMemory}
use Rattle.trace_why.specs.Answer.{IsAnswerFor}
use Rattle.trace_why.specs.declared.ending.WhyEnding.{WhyEnding}
use Rattle.trace_why.specs.inner.Kept.{Kept}
use Rattle.trace_why.specs.inner.State.{State}
use Rattle.trace_why.proofs.Advancing.{has_run}
use Rattle.trace_why.proofs.monitor.WhyMonitor.advance.Goals as goal

pub conclude-requires-clause-run : goal.conclude-requires-clause-run
conclude-requires-clause-run c =
    let at : State = record { system = c.self.inside.code.now.system; options = c.self.inside.options; question = c.self.inside.question; run = c.self.inside.run; reader = c.self.inside.reader; lines = c.self.inside.lines.items } in
    let (fed, was) = c.requires.kept in
    let kept = subst (λ (m : State). Kept m fed) (sym c.self.view_is) was in
    let piece = c.args.piece.now in (
      fed ++ piece,
      is_nothing piece,
      has_run at fed piece kept c.gather.new.reader c.gather.new.lines.items c.deref.result.now c.in_ok-by.by c.deref.ensures.value
          (c.in_ok-gather.ensures at.system at.options.strict at.options.bytes fed kept.reads) (c.in_ok-by.ensures.ending fed kept.run),
    )

pub returns-clause-kept : goal.returns-clause-kept
returns-clause-kept c = λ fed was is.
    let at : State = record { system = c.self.inside.code.now.system; options = c.self.inside.options; question = c.self.inside.question; run = c.self.inside.run; reader = c.self.inside.reader; lines = c.self.inside.lines.items } in
    let kept = subst (λ (m : State). Kept m fed) (sym c.self.view_is) was in
    let piece = c.args.piece.now in
    let s = at.system in
    let o = at.options in
    let gathered = c.in_ok-gather.ensures s o.strict o.bytes fed kept.reads in
    let run = has_run at fed piece kept c.gather.new.reader c.gather.new.lines.items c.deref.result.now c.in_ok-by.by c.deref.ensures.value gathered (c.in_ok-by.ensures.ending fed kept.run) in
    let none : c.in_ok-by.by ≡ None = c.conclude.ensures.goes_on is in
    let ended = is_nothing piece in
    let awaited = subst (λ (x : Result (Option WhyEnding) NoMemory). IfOk x (λ answer. IsAnswerFor s o at.question (fed ++ piece) ended answer)) is
    (if_ok c.conclude.result _ _ (λ answer says. says (fed ++ piece) ended run) c.conclude.ensures.answer) in
    record {
      well_formed = kept.well_formed;
      there = kept.there;
      system_is = c.in_ok-by.ensures.system ∙ kept.system_is;
      options_are = c.in_ok-by.ensures.options ∙ kept.options_are;
      run = c.advance.ensures.kept fed kept.run (c.in_ok-by.was ∙ ap Ok none);
      reads = subst (λ (e : Bool). Reads c.gather.new.reader s o.strict o.bytes (fed ++ piece) c.gather.new.lines.items e) awaited.unended gathered.reads;
      awaits = gathered.awaits awaited.unended awaited.accepted;
    }

pub returns-clause-answer : goal.returns-clause-answer
returns-clause-answer c = if_ok c.conclude.result _ _ (λ answer says fed was.
    let at : State = record { system = c.self.inside.code.now.system; options = c.self.inside.options; question = c.self.inside.question; run = c.self.inside.run; reader = c.self.inside.reader; lines = c.self.inside.lines.items } in
    let kept = subst (λ (m : State). Kept m fed) (sym c.self.view_is) was in
    let piece = c.args.piece.now in
    subst (λ (m : State). IsAnswerFor m.system m.options m.question (fed ++ piece) (is_nothing piece) answer) c.self.view_is
    (says (fed ++ piece) (is_nothing piece) (has_run at fed piece kept c.gather.new.reader c.gather.new.lines.items c.deref.result.now c.in_ok-by.by c.deref.ensures.value
    (c.in_ok-gather.ensures at.system at.options.strict at.options.bytes fed kept.reads) (c.in_ok-by.ensures.ending fed kept.run)))) c.conclude.ensures.answer
