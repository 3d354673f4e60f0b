use Rattle.aggregate_store.specs.inner.Entries.{entry_of}
use Rattle.aggregate_store.proofs.SameCells.{AgreeAs}
use Rattle.aggregate_store.proofs.same.is_same_mixed_entries.Given as goal

abbrev pub invariant-loop-number : goal.invariant-loop-number
invariant-loop-number l = AgreeAs entry_of l.fn.numbers.entries l.fn.scalars.entries l.number-iterator l.left
