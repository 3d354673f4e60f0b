use Rattle.std.proofs.Common.{false, refl, subst, ◌∙◌}
use Rattle.flat_core.specs.System.{System}
use Rattle.trace_reader.specs.inner.Reads.{Reads}
use Rattle.trace_reader.specs.inner.Saved.{IsReaderAfter}
use Rattle.trace_monitor.proofs.Resuming.{resumed_kept, resumed_waits}
use Rattle.trace_monitor.proofs.monitor.TraceMonitor.from_state.Goals as goal

pub returns-clause-state : goal.returns-clause-state
returns-clause-state c = record {
  options = record { strict = refl; instants = refl; bytes = refl };
  reader = c.in_ok-reader.ensures.state;
  monitor = c.in_ok-engine.ensures.saved.state;
}

pub returns-clause-waits : goal.returns-clause-waits
returns-clause-waits c =
    let made = c.in_ok-engine.ensures in
    let read = c.in_ok-reader.ensures in
    resumed_waits _ c.args.code.now.system c.args.state made.saved.ready c.requires.fits read.awaits read.state made.saved.can made.saved.state
    (read.system ∙ c.flat.ensures.flat) made.system read.strict read.limit refl made.limit c.last_or_zero-last.ensures

pub returns-clause-kept : goal.returns-clause-kept
returns-clause-kept c =
    let made = c.in_ok-engine.ensures in
    let read = c.in_ok-reader.ensures in
    let waits = resumed_waits _ c.args.code.now.system c.args.state made.saved.ready c.requires.fits read.awaits read.state made.saved.can made.saved.state
    (read.system ∙ c.flat.ensures.flat) made.system read.strict read.limit refl made.limit c.last_or_zero-last.ensures in
    λ fed after. resumed_kept _ c.args.code.now c.args.state fed made.saved.ready waits made.system made.in_place made.order refl
    (λ ls. subst (λ (s : System). IsReaderAfter s c.args.state.strict c.args.state.bytes_limit fed ls c.args.state.reader → Reads c.in_ok-reader.reader s c.args.state.strict c.args.state.bytes_limit fed ls false)
    c.flat.ensures.flat (read.reads fed ls)) made.stands after
