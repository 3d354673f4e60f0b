use Rattle.monitor_run.proofs.UpdateLemmas.{element_fits}
use Rattle.monitor_run.proofs.update.element_added.Goals as goal

pub enqueue-requires-clause-queue : goal.enqueue-requires-clause-queue
enqueue-requires-clause-queue c =
    (element_fits c.args.store.now.cells c.args.queue.now c.args.value.now c.in-Some.queue c.in-Some-scalar_of.value.now c.in-Some.ensures c.in-Some-scalar_of.ensures c.requires.typed).queue
