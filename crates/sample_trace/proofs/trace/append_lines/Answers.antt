use Rattle.std.proofs.Common.{◌-◌, length, ap, arith, length-append}
use Rattle.sample_trace.specs.Trace.{lines_text}
use Rattle.sample_trace.proofs.Lines.{to_short}
use Rattle.sample_trace.proofs.trace.append_lines.Goals as goal

pub returns-in-Ok-clause-short : goal.returns-in-Ok-clause-short
returns-in-Ok-clause-short c =
    let from = c.args.from in
    let n = c.args.to - c.args.from in
    omega (arith, to_short from c.args.to (omega arith), ap length c.in-Ok.ensures.ok, length-append c.args.out.now (lines_text from n))
