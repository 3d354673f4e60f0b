use Rattle.std.proofs.Common.{◌≡◌, [], false, subst, rules}
use Rattle.flat_core.specs.System.{System}
use Rattle.trace_reader.specs.inner.Reads.{Reads}
use Rattle.trace_monitor.proofs.Going.{kept_new}
use Rattle.trace_monitor.proofs.monitor.TraceMonitor.new.Goals as goal

pub returns-clause-kept : goal.returns-clause-kept
returns-clause-kept c =
    let last : c.unwrap.result ≡ 0 = search rules in
    let made = c.in_ok-engine.ensures in
    let reads = subst (λ (s : System). Reads c.in_ok-reader.reader s c.args.options.strict c.args.options.bytes [] [] false) c.flat.ensures.flat c.in_ok-reader.ensures.reads in
    kept_new _ (c.instants.ensures.ready made.stands.going) made.system made.limit last made.unclosed made.stands reads c.in_ok-reader.ensures.awaits
