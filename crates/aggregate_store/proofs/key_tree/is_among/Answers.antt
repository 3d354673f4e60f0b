use Rattle.std.proofs.Common.{sym, ap, ◌∙◌}
use Rattle.std.specs.FinSet as set
use Rattle.tsl_value.specs.declared.scalar.Scalar.{Scalar}
use Rattle.aggregate_store.specs.inner.Keys.{set_of_numbers}
use Rattle.aggregate_store.proofs.Numbers.{contains_number, contains_other}
use Rattle.aggregate_store.proofs.key_tree.is_among.Goals as goal

pub returns-in-Int : goal.returns-in-Int
returns-in-Int c =
    c.contains.ensures ∙ sym (contains_number c.args.numbers.now _)
    ∙ sym (ap (λ (key : Scalar). set.contains (set_of_numbers c.args.numbers.now) key) c.in-Int.is)

pub returns-in_default : goal.returns-in_default
returns-in_default c = sym (contains_other c.args.numbers.now c.args.key.now c.in_default.not-Int)
