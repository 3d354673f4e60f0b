use Rattle.std.proofs.Common.{sym, ap, ◌∙◌}
use Rattle.std.specs.FinMap as finite_map
use Rattle.tsl_value.specs.declared.scalar.Scalar.{Scalar}
use Rattle.aggregate_store.specs.inner.Entries.{table_of_numbers}
use Rattle.aggregate_store.proofs.NumberEntries.{number_without, other_without}
use Rattle.aggregate_store.proofs.entry_tree.take_out.Goals as goal

pub returns-in-Int : goal.returns-in-Int
returns-in-Int c =
    number_without c.args.numbers.now c.remove.new.self _ c.remove.ensures.updates
    ∙ sym (ap (λ (key : Scalar). finite_map.remove (table_of_numbers c.args.numbers.now) key) c.in-Int.is)

pub returns-in_default : goal.returns-in_default
returns-in_default c = other_without c.args.numbers.now c.args.key.now c.in_default.not-Int
