use Rattle.std.proofs.Common.{ap, ◌∙◌}
use Rattle.std.specs.FinSet as set
use Rattle.tsl_value.specs.View.{Keys}
use Rattle.tsl_value.specs.inner.ScalarOrder.{scalar_cmp_total}
use Rattle.tsl_value.proofs.ScalarOrder.{scalar_cmp-IsAntisymmetric}
use Rattle.aggregate_store.proofs.FiniteMaps.{set-insert}
use Rattle.aggregate_store.proofs.key_tree.scalars_with.Goals as goal

pub returns : goal.returns
returns c =
    set-insert scalar_cmp_total scalar_cmp-IsAntisymmetric c.in_ok-scalars.scalars.keys c.insert.new.self.keys c.args.key c.in_ok-insert.ensures.updates.0
    ∙ ap (λ (keys : Keys). set.insert keys c.args.key) c.in_ok-scalars.ensures
