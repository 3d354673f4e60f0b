use Rattle.monitor_run.proofs.SkipLemmas.{print_skipped}
use Rattle.monitor_run.proofs.run.print_if_any.Goals as goal

pub returns-then-is_blank-clause-printed : goal.returns-then-is_blank-clause-printed
returns-then-is_blank-clause-printed c = print_skipped c.args.flat.now c.args.time c.args.place c.args.machine.now (c.is_blank.ensures.empty c.if-is_blank.true) (c.is_blank.ensures.unprinted c.if-is_blank.true)
