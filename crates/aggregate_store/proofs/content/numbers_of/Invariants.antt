use Rattle.std.proofs.Common.{◌≡◌, ◌++◌, map}
use Rattle.std.specs.List.{AllByRecursion}
use Rattle.tsl_value.specs.declared.scalar.Scalar.TheVariants as scalar
use Rattle.aggregate_store.specs.Content.{IsInRange}
use Rattle.aggregate_store.proofs.content.numbers_of.Given as goal

abbrev pub invariant-loop-number : goal.invariant-loop-number
invariant-loop-number l = (l.list ++ map scalar.Int l.number-iterator ≡ map scalar.Int l.fn.numbers.keys) × AllByRecursion IsInRange l.list
