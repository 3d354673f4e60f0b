-- The views of the aggregates that cells hold.
use Rattle.std.specs.Prelude.{ℕ, suc, List, [], ◌∷◌, Option, Some, None}
use Rattle.std.specs.FinMap as finite_map
use Rattle.tsl_value.specs.View.{View, Keyed, Mapped, Listed}
use Rattle.cell_reader.specs.inner.Cells.{Cells}
use Rattle.aggregate_store.specs.declared.cell.Cell.{Cell}
use Rattle.aggregate_store.specs.declared.cell.Cell.TheVariants as cell
use Rattle.aggregate_store.specs.inner.Entries.{table_of}

abbrev pub view_of : Cell → View
view_of (cell.Set s) = Keyed s
view_of (cell.Map m) = Mapped (table_of m)
view_of (cell.Queue q) = Listed q.items

-- the entries of the cells that slots have, where the first slot is that of a handle
abbrev pub entries_from : ℕ → List (Option Cell) → List (ℕ × View)
entries_from handle [] = []
entries_from handle (None ∷ slots) = entries_from (suc handle) slots
entries_from handle (Some cell ∷ slots) = (handle, view_of cell) ∷ entries_from (suc handle) slots

-- the cells of a store by their handles, which are the places of their slots
abbrev pub cells_of : List (Option Cell) → Cells
cells_of slots = finite_map.from_entries (entries_from 0 slots)
