use Rattle.std.proofs.Common.{sym, ◌∙◌}
use Rattle.state_snapshot.specs.inner.Reading.{is_entry_below, rise_by}
use Rattle.state_snapshot.proofs.Loop.{rise_on}
use Rattle.state_snapshot.proofs.cells.are_entries_rising.Goals as goal

pub loop-entry-preserved : goal.loop-entry-preserved
loop-entry-preserved c =
    rise_on is_entry_below c.loop-entry.last.now c.in-Some.others.now c.loop-entry.entry-index (rise_by is_entry_below c.args.entries.now) c.loop-entry.invariant
    c.entry-item.result c.loop-entry-test.true c.entry-item.is (sym c.is_below.ensures ∙ c.if-not-is_below.false)
