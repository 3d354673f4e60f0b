use Rattle.trace_monitor.proofs.Taking.{if_ok}
use Rattle.trace_monitor.proofs.Saving.{code_is, few_instants}
use Rattle.resumed_run.proofs.Parts.{part_after}
use Rattle.resumed_run.proofs.save.gone_on.Goals as goal

pub part_of-requires-clause-few : goal.part_of-requires-clause-few
part_of-requires-clause-few c = few_instants c.args.code.now.system c.in_ok-monitor.monitor.options c.args.state c.requires.fits c.in_ok-monitor.ensures.state.options

pub part_of-requires-clause-code : goal.part_of-requires-clause-code
part_of-requires-clause-code c = code_is c.in_ok-monitor.monitor c.args.code.now c.in_ok-monitor.ensures.system c.in_ok-monitor.ensures.in_place c.in_ok-monitor.ensures.order

pub returns-clause-part : goal.returns-clause-part
returns-clause-part c = if_ok c.part_of.result _ _ (λ part parts o earlier closes run.
    part_after c.in_ok-monitor.monitor c.args.code.now o c.args.state c.args.until earlier c.args.piece.now part c.in_ok-monitor.ensures.state.options c.in_ok-monitor.ensures.until
    c.in_ok-monitor.ensures.kept parts closes run) c.part_of.ensures.part
