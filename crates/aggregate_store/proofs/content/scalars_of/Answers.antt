use Rattle.std.proofs.Common.{rules, sym, ◌∙◌}
use Rattle.tsl_value.specs.inner.ScalarOrder.{scalar_cmp_total}
use Rattle.aggregate_store.proofs.FiniteMaps.{keys-of_keys}
use Rattle.tsl_value.proofs.ScalarOrder.{scalar_cmp-IsAntisymmetric}
use Rattle.aggregate_store.proofs.Gathered.{all_gathered}
use Rattle.aggregate_store.proofs.content.scalars_of.Goals as goal

pub returns-clause-keys : goal.returns-clause-keys
returns-clause-keys c =
    all_gathered c.loop-key.list _ c.loop-key.key-iterator c.loop-key.invariant.0 (search rules)
    ∙ sym (keys-of_keys scalar_cmp_total scalar_cmp-IsAntisymmetric c.args.keys.now.keys c.iter-rest.ensures.ordered)
