use Rattle.std.proofs.Common.{◌≡◌, ◌++◌}
use Rattle.std.specs.List.{AllByRecursion}
use Rattle.aggregate_store.specs.Content.{IsInRange}
use Rattle.aggregate_store.proofs.content.scalars_of.Given as goal

abbrev pub invariant-loop-key : goal.invariant-loop-key
invariant-loop-key l = (l.list ++ l.key-iterator ≡ l.fn.keys.keys) × AllByRecursion IsInRange l.list
