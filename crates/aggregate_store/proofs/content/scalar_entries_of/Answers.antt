use Rattle.std.proofs.Common.{rules, sym, ◌∙◌}
use Rattle.tsl_value.specs.inner.ScalarOrder.{scalar_cmp_total}
use Rattle.aggregate_store.proofs.FiniteMaps.{entries-of_entries}
use Rattle.aggregate_store.proofs.Gathered.{all_gathered}
use Rattle.aggregate_store.proofs.content.scalar_entries_of.Goals as goal

pub returns-clause-entries : goal.returns-clause-entries
returns-clause-entries c =
    all_gathered c.loop-key.list _ c.loop-key.key-iterator c.loop-key.invariant.0 (search rules)
    ∙ sym (entries-of_entries scalar_cmp_total c.args.entries.now.entries c.iter-rest.ensures.ordered)
