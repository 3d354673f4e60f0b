use Rattle.std.proofs.Common.{◌≡◌, ◌++◌, map}
use Rattle.std.specs.List.{AllByRecursion}
use Rattle.aggregate_store.specs.Content.{IsInRange}
use Rattle.aggregate_store.specs.inner.Entries.{entry_of}
use Rattle.aggregate_store.proofs.content.number_entries_of.Given as goal

abbrev pub invariant-loop-number : goal.invariant-loop-number
invariant-loop-number l = (l.list ++ map entry_of l.number-iterator ≡ map entry_of l.fn.entries.entries) × AllByRecursion (λ e. IsInRange e.0 × IsInRange e.1) l.list
