use Rattle.std.proofs.Common.{[], subst}
use Rattle.trace_monitor.specs.declared.options.Options.{Options}
use Rattle.trace_monitor.specs.Saved.{IsSavedAs}
use Rattle.trace_monitor.proofs.Taking.{if_ok}
use Rattle.trace_monitor.proofs.Saving.{code_is}
use Rattle.resumed_run.proofs.save.begun.Goals as goal

pub saved-requires-clause-waits : goal.saved-requires-clause-waits
saved-requires-clause-waits c = c.in_ok-monitor.ensures.kept.waits

pub saved-requires-clause-code : goal.saved-requires-clause-code
saved-requires-clause-code c = code_is c.in_ok-monitor.monitor c.args.code.now c.in_ok-monitor.ensures.system c.in_ok-monitor.ensures.in_place c.in_ok-monitor.ensures.order

pub returns : goal.returns
returns c = if_ok c.saved.result _ _ (λ bytes has.
    subst (λ (o : Options). IsSavedAs c.args.code.now o [] bytes) c.in_ok-monitor.ensures.options (has [] c.in_ok-monitor.ensures.kept)) c.saved.ensures.saved
