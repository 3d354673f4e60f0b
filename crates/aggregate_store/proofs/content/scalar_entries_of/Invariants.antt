use Rattle.std.proofs.Common.{◌≡◌, ◌++◌}
use Rattle.std.specs.List.{AllByRecursion}
use Rattle.aggregate_store.specs.Content.{IsInRange}
use Rattle.aggregate_store.proofs.content.scalar_entries_of.Given as goal

abbrev pub invariant-loop-key : goal.invariant-loop-key
invariant-loop-key l = (l.list ++ l.key-iterator ≡ l.fn.entries.entries) × AllByRecursion (λ e. IsInRange e.0 × IsInRange e.1) l.list
