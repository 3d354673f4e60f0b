use Rattle.std.proofs.Common.{◌≡◌, true, sym, subst, to_z-of_z}
use Rattle.std.specs.FinSet as set
use Rattle.tsl_value.specs.declared.scalar.Scalar.TheVariants as scalar
use Rattle.tsl_value.specs.inner.ScalarOrder.{scalar_cmp_total}
use Rattle.tsl_value.proofs.ScalarOrder.{scalar_cmp-IsAntisymmetric}
use Rattle.aggregate_store.proofs.FiniteMaps.{insert-present}
use Rattle.aggregate_store.proofs.keys.KeySet.insert_number.Goals as goal

pub returns-then-is_recent-clause-ok : goal.returns-then-is_recent-clause-ok
returns-then-is_recent-clause-ok c =
    let there = subst (λ n. set.contains c.args.self.now (scalar.Int n) ≡ true) (to_z-of_z c.ranges.number) (c.is_recent.ensures c.if-is_recent.true) in
    sym (insert-present scalar_cmp_total scalar_cmp-IsAntisymmetric c.args.self.now (scalar.Int c.args.number) there)
