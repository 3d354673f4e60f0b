use Rattle.tsl_value.specs.declared.scalar.Scalar.TheVariants as scalar
use Rattle.aggregate_store.proofs.SameCells.{AgreeAs}
use Rattle.aggregate_store.proofs.same.is_same_mixed.Given as goal

abbrev pub invariant-loop-number : goal.invariant-loop-number
invariant-loop-number l = AgreeAs scalar.Int l.fn.numbers.keys l.fn.scalars.keys l.number-iterator l.left
