use Rattle.std.specs.Prelude.{slice_index}
use Rattle.flat_core.specs.Updates.{is_running_update}
use Rattle.program_text.proofs.Numbers.{text_more}
use Rattle.trace_run.specs.Statistics.{update_line}
use Rattle.trace_run.proofs.statistics.print_updates.Goals as goal

pub loop-number-preserved : goal.loop-number-preserved
loop-number-preserved c =
    let s = c.args.flat.now in
    let ledger = c.args.monitor.now.engine.ledger in
    text_more (is_running_update s) (λ u. update_line s u (slice_index ledger u)) c.loop-number.number c.new.result c.args.out.now c.loop-number.out c.print_if_update.new.out c.new.ensures c.loop-number.invariant c.in_ok-print_if_update.ensures
