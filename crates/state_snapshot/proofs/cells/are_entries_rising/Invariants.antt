use Rattle.std.proofs.Common.{◌≡◌, ◌∷◌, drop}
use Rattle.state_snapshot.specs.inner.Reading.{is_entry_below, rise_by}
use Rattle.state_snapshot.proofs.cells.are_entries_rising.Given as goal

abbrev pub invariant-loop-entry : goal.invariant-loop-entry
invariant-loop-entry l = rise_by is_entry_below (l.last ∷ drop l.entry-index l.others) ≡ rise_by is_entry_below l.entries
