use Rattle.std.proofs.Common.{◌≡◌, take}
use Rattle.monitor_run.specs.inner.Resuming.{HasCells}
use Rattle.monitor_run.proofs.restored.fill_cells.Given as goal

abbrev pub invariant-loop-content : goal.invariant-loop-content
invariant-loop-content l = HasCells (take l.content-index l.contents) l.handles.items l.store.cells × (l.store.ledger ≡ l.initial.store.ledger)
