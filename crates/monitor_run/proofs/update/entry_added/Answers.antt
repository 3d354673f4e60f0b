use Rattle.monitor_run.proofs.UpdateLemmas.{entry_fits}
use Rattle.monitor_run.proofs.update.entry_added.Goals as goal

pub add-requires-clause-key : goal.add-requires-clause-key
add-requires-clause-key c =
    (entry_fits c.args.store.now.cells c.args.map.now c.args.key.now c.in-Some.map c.in-Some-scalar_of.key.now c.in-Some.ensures c.in-Some-scalar_of.ensures c.args.value.now c.in-Some-scalar_of-2.value.now c.in-Some-scalar_of-2.ensures c.requires.typed).key_fits

pub add-requires-clause-value : goal.add-requires-clause-value
add-requires-clause-value c =
    (entry_fits c.args.store.now.cells c.args.map.now c.args.key.now c.in-Some.map c.in-Some-scalar_of.key.now c.in-Some.ensures c.in-Some-scalar_of.ensures c.args.value.now c.in-Some-scalar_of-2.value.now c.in-Some-scalar_of-2.ensures c.requires.typed).value_fits
