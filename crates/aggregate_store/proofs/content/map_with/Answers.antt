use Rattle.std.proofs.Common.{ap, ◌∙◌}
use Rattle.std.specs.FinMap as finite_map
use Rattle.aggregate_store.specs.inner.Entries.{table_of}
use Rattle.aggregate_store.proofs.Gathered.{all_taken, one_entry_more}
use Rattle.aggregate_store.proofs.content.map_with.Goals as goal

pub loop-entry-preserved : goal.loop-entry-preserved
loop-entry-preserved c =
    one_entry_more
    c.args.list.now c.loop-entry.entry-index c.entry-item.result (table_of c.loop-entry.entries) (table_of c.put_copy.new.self)
    c.requires c.loop-entry-test.true c.entry-item.is c.loop-entry.invariant c.in_ok-put_copy.ensures.ok

pub returns : goal.returns
returns c = c.loop-entry.invariant ∙ ap finite_map.from_entries (all_taken c.args.list.now c.loop-entry.entry-index c.loop-entry-test.false)
