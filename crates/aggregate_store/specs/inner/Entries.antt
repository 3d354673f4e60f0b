-- The entries that a map has.
use Rattle.std.specs.Prelude.{ℤ, map}
use Rattle.std.specs.BTreeMap.{BTreeMap}
use Rattle.std.specs.FinMap as finite_map
use Rattle.tsl_value.specs.View.{Table}
use Rattle.tsl_value.specs.declared.scalar.Scalar.{Scalar}
use Rattle.tsl_value.specs.declared.scalar.Scalar.TheVariants as scalar
use Rattle.aggregate_store.specs.declared.entry_tree.EntryTree.{EntryTree}
use Rattle.aggregate_store.specs.declared.entry_tree.EntryTree.TheVariants as entry_tree

-- the entry with its number as a scalar
abbrev pub entry_of : ℤ × Scalar → Scalar × Scalar
entry_of e = (scalar.Int e.0, e.1)

abbrev pub table_of_numbers : BTreeMap ℤ Scalar → Table
table_of_numbers m = finite_map.from_entries (map entry_of m.entries)

abbrev pub table_of_scalars : BTreeMap Scalar Scalar → Table
table_of_scalars m = finite_map.from_entries m.entries

abbrev pub table_of : EntryTree → Table
table_of (entry_tree.Numbers alloc m) = table_of_numbers m
table_of (entry_tree.Scalars m) = table_of_scalars m
