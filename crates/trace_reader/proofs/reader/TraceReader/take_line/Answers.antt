use Rattle.std.proofs.Common.{◌≡◌, Err, ◌∙◌, sym, ap}
use Rattle.trace_reader.specs.Reading.{as_read}
use Rattle.trace_reader.specs.inner.Reader.{judged_at}
use Rattle.trace_reader.proofs.StepLemmas.{refuses_line}
use Rattle.trace_reader.proofs.reader.TraceReader.take_line.Goals as goal

pub judge-requires : goal.judge-requires
judge-requires c = rw c.as_slice.ensures (c.self.invariant.stops _ _ (rw (← c.self.view_is) at c.requires.line))

pub returns-in_ok-pass_line-in-Ok : goal.returns-in_ok-pass_line-in-Ok
returns-in_ok-pass_line-in-Ok c =
    let judged = rw (c.deref.ensures.value, c.as_slice.ensures) at (sym c.in_ok-line.ensures ∙ ap as_read c.in-Ok.is) in
    (rw (← c.self.view_is) judged, c.in_ok-pass_line-in-Ok.ensures.ok)

pub returns-in_ok-refuse-in-Err : goal.returns-in_ok-refuse-in-Err
returns-in_ok-refuse-in-Err c =
    let judged = rw (c.deref.ensures.value, c.as_slice.ensures) at (sym c.in_ok-line.ensures ∙ ap as_read c.in-Err.is) in
    let here : judged_at c.args.self.now c.args.len ≡ Err c.in-Err.fault = rw (← c.self.view_is) judged in
    refuses_line c.args.self.now _ c.args.len c.in-Err.fault here c.in_ok-refuse-in-Err.ensures.ok
