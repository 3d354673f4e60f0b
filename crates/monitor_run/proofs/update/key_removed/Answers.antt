use Rattle.monitor_run.proofs.UpdateLemmas.{removed_key_fits}
use Rattle.monitor_run.proofs.update.key_removed.Goals as goal

pub remove-requires-clause-key : goal.remove-requires-clause-key
remove-requires-clause-key c =
    removed_key_fits c.args.store.now.cells c.args.aggregate.now c.args.key.now c.in-Some.aggregate c.in-Some-scalar_of.key.now c.in-Some.ensures c.in-Some-scalar_of.ensures c.args.update c.requires.removes c.requires.typed
