use Rattle.std.proofs.Common.{map}
use Rattle.aggregate_store.specs.inner.Entries.{entry_of, table_of_scalars}
use Rattle.aggregate_store.proofs.Gathered.{HasBefore}
use Rattle.aggregate_store.proofs.entry_tree.scalars_of.Given as goal

abbrev pub invariant-loop-number : goal.invariant-loop-number
invariant-loop-number l = HasBefore (table_of_scalars l.scalars) (map entry_of l.number-iterator) (map entry_of l.fn.numbers.entries)
