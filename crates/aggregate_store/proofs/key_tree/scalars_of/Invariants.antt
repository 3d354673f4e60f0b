use Rattle.std.proofs.Common.{map}
use Rattle.tsl_value.specs.declared.scalar.Scalar.TheVariants as scalar
use Rattle.aggregate_store.specs.inner.Keys.{set_of_scalars}
use Rattle.aggregate_store.proofs.FiniteMaps.{Lacks}
use Rattle.tsl_value.specs.inner.ScalarOrder.{scalar_cmp_total}
use Rattle.aggregate_store.proofs.key_tree.scalars_of.Given as goal

abbrev pub invariant-loop-number : goal.invariant-loop-number
invariant-loop-number l = Lacks scalar_cmp_total (set_of_scalars l.scalars) (map scalar.Int l.number-iterator) (map scalar.Int l.fn.numbers.keys)
