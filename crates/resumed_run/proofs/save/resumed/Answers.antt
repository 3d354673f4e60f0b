use Rattle.trace_monitor.proofs.Saving.{saved_after}
use Rattle.resumed_run.proofs.save.resumed.Goals as goal

pub returns-clause-part : goal.returns-clause-part
returns-clause-part c = λ o earlier closes saved.
    let found = c.in_ok-state.ensures.found in
    c.in_ok-gone_on.ensures.part o earlier closes (saved_after c.args.code.now o c.in_ok-state.state earlier c.args.bytes.now c.assert_whole.ensures found.0 found.1 saved)
