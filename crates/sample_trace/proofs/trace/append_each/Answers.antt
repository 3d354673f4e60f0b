use Rattle.std.proofs.Common.{◌-◌, ◌++◌, ap, sym, ◌∙◌, append_assoc, arith}
use Rattle.sample_trace.specs.Trace.{line_text, lines_text}
use Rattle.sample_trace.proofs.Lines.{lines_to}
use Rattle.sample_trace.proofs.trace.append_each.Goals as goal

pub loop-time-preserved : goal.loop-time-preserved
loop-time-preserved c =
    let from = c.args.from in
    let time = c.loop-time.time in
    let out = c.args.out.now in record {
      text =
          c.in_ok-append_line.ensures.ok ∙ ap (λ l. l ++ line_text time) c.loop-time.invariant.text
          ∙ append_assoc out (lines_text from (time - from)) (line_text time) ∙ ap (λ l. out ++ l) (sym (lines_to from time (omega arith)));
      none = λ over. absurd (omega (arith, c.loop-time.invariant.none over));
    }
