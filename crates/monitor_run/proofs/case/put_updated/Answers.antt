use Rattle.monitor_run.proofs.UpdateLemmas.{takes_update}
use Rattle.monitor_run.proofs.case.put_updated.Goals as goal

pub updated-requires-clause-typed : goal.updated-requires-clause-typed
updated-requires-clause-typed c = takes_update c.args.store.now.cells c.args.registers.now c.args.e.now c.args.update c.requires.is c.requires.typed
