use Rattle.std.proofs.Common.{◌+◌, ◌-◌, ◌++◌, [], Bool, false, refl, sym, ap, subst, ◌∙◌, arith, rules, Ok, Option}
use Rattle.std.specs.Result.{result_from_control_flow}
use Rattle.sample_trace.specs.Trace.{lines_text}
use Rattle.trace_bench.proofs.Pieces.{joined, parted, ended, bytes_more, due_as, ran_as, begun}
use Rattle.trace_monitor.specs.declared.ending.RunEnding.{RunEnding}
use Rattle.trace_monitor.specs.inner.Kept.{Kept}
use Rattle.trace_monitor.specs.Due.{IsDue}
use Rattle.trace_monitor.specs.Next.{IsNext, is_nothing}
use Rattle.trace_bench.proofs.run.run_over.Goals as goal

pub loop-text-init : goal.loop-text-init
loop-text-init c = record {
  within = omega arith;
  system = refl;
  options = refl;
  kept = c.requires.kept;
  text = [];
  due = begun c.args.monitor.now c.requires.kept;
  set = refl;
  bytes = refl;
}

pub advance-requires-clause-waits : goal.advance-requires-clause-waits
advance-requires-clause-waits c = c.loop-text.invariant.kept.waits

pub returns-in-Some-clause-set : goal.returns-in-Some-clause-set
returns-in-Some-clause-set c = c.advance.ensures.set ∙ c.loop-text.invariant.set

pub returns-in-Some-clause-ran : goal.returns-in-Some-clause-ran
returns-in-Some-clause-ran c =
    let m = c.loop-text.monitor in
    let before = c.loop-text.invariant in
    let taken = c.loop-text.taken in
    let more = c.min-more.result in
    let piece = c.as_slice.result.now in
    let fed = lines_text 1 taken in
    let piece_is = c.as_slice.ensures ∙ c.in_ok-append_lines.ensures.ok ∙ ap (λ l. l ++ lines_text (taken + 1) (more + 1 - (taken + 1))) c.truncate.ensures in
    ran_as m.system c.args.monitor.now.system m.options c.args.monitor.now.options before.system before.options c.advance.new.self.engine c.args.lines c.in-Some.ending c.saturating_add-bytes.result record {
      front = fed ++ piece;
      rest = lines_text (1 + more) (c.args.lines - more);
      is = parted c.args.lines taken more piece before.within c.min-more.ensures piece_is;
      ended = is_nothing piece;
      ended_is = ended c.args.lines taken more piece before.within c.min-more.ensures piece_is;
      cause = subst (λ (e : Option RunEnding). IsNext m.system m.options (fed ++ piece) (is_nothing piece) e) c.in-Some.is (c.in_ok-next.ensures.ending fed before.kept);
      text = before.text ++ c.advance.new.out;
      due = c.in_ok-next.ensures.text fed before.text before.kept before.due;
      bytes_are = bytes_more before.text c.advance.new.out c.loop-text.bytes c.saturating_add-bytes.result before.bytes (search rules);
      system_is = c.advance.ensures.engine ∙ before.kept.waits.in_step.system_is ∙ before.kept.waits.system_is;
      counted = c.advance.ensures.counted fed c.in-Some.ending before.kept (c.branch-next.ensures ∙ ap result_from_control_flow c.in_ok-next.is ∙ ap (λ (e : Option RunEnding). Ok e) c.in-Some.is);
    }

pub loop-text-preserved : goal.loop-text-preserved
loop-text-preserved c =
    let m = c.loop-text.monitor in
    let before = c.loop-text.invariant in
    let taken = c.loop-text.taken in
    let more = c.min-more.result in
    let piece = c.as_slice.result.now in
    let fed = lines_text 1 taken in
    let piece_is = c.as_slice.ensures ∙ c.in_ok-append_lines.ensures.ok ∙ ap (λ l. l ++ lines_text (taken + 1) (more + 1 - (taken + 1))) c.truncate.ensures in
    let all = joined c.args.lines taken more piece before.within c.min-more.ensures piece_is in
    let next = subst (λ (e : Option RunEnding). IsNext m.system m.options (fed ++ piece) (is_nothing piece) e) c.in_default.is (c.in_ok-next.ensures.ending fed before.kept) in
    let kept = c.advance.ensures.kept fed before.kept (c.branch-next.ensures ∙ ap result_from_control_flow c.in_ok-next.is ∙ ap (λ (e : Option RunEnding). Ok e) c.in_default.is) in
    let due = c.in_ok-next.ensures.text fed before.text before.kept before.due in
    let going = subst (λ (b : Bool). IsDue m.system m.options (fed ++ piece) b (before.text ++ c.advance.new.out)) next.0 due in record {
      within = omega arith;
      system = c.advance.ensures.system ∙ before.system;
      options = c.advance.ensures.options ∙ before.options;
      kept = subst (λ l. Kept c.advance.new.self l) all kept;
      text = before.text ++ c.advance.new.out;
      due = due_as m.system c.advance.new.self.system m.options c.advance.new.self.options (sym c.advance.ensures.system) (sym c.advance.ensures.options) (lines_text 1 more) false (before.text ++ c.advance.new.out)
          (subst (λ l. IsDue m.system m.options l false (before.text ++ c.advance.new.out)) all going);
      set = c.advance.ensures.set ∙ before.set;
      bytes = bytes_more before.text c.advance.new.out c.loop-text.bytes c.saturating_add-bytes.result before.bytes (search rules);
    }
