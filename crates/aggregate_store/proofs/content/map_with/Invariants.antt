use Rattle.std.proofs.Common.{◌≡◌, take}
use Rattle.std.specs.FinMap as finite_map
use Rattle.aggregate_store.specs.inner.Entries.{table_of}
use Rattle.aggregate_store.proofs.content.map_with.Given as goal

abbrev pub invariant-loop-entry : goal.invariant-loop-entry
invariant-loop-entry l = table_of l.entries ≡ finite_map.from_entries (take l.entry-index l.list)
