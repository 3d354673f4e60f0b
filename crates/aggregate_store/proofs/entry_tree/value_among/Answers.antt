use Rattle.std.proofs.Common.{sym, ap, ◌∙◌}
use Rattle.std.specs.FinMap as finite_map
use Rattle.tsl_value.specs.declared.scalar.Scalar.{Scalar}
use Rattle.aggregate_store.specs.inner.Entries.{table_of_numbers}
use Rattle.aggregate_store.proofs.NumberEntries.{get_number, get_other}
use Rattle.aggregate_store.proofs.entry_tree.value_among.Goals as goal

pub returns-in-Int : goal.returns-in-Int
returns-in-Int c =
    c.get.ensures.value ∙ sym (get_number c.args.numbers.now _)
    ∙ sym (ap (λ (key : Scalar). finite_map.get (table_of_numbers c.args.numbers.now) key) c.in-Int.is)

pub returns-in_default : goal.returns-in_default
returns-in_default c = sym (get_other c.args.numbers.now c.args.key.now c.in_default.not-Int)
