use Rattle.std.proofs.Common.{rules, ◌≡◌, [], map, sym, ap, ◌∙◌}
use Rattle.tsl_value.specs.declared.scalar.Scalar.TheVariants as scalar
use Rattle.tsl_value.specs.inner.ScalarOrder.{scalar_cmp_total}
use Rattle.aggregate_store.proofs.FiniteMaps.{keys-of_keys}
use Rattle.tsl_value.proofs.ScalarOrder.{scalar_cmp-IsAntisymmetric}
use Rattle.aggregate_store.proofs.Gathered.{all_gathered}
use Rattle.aggregate_store.proofs.Numbers.{numbers_rise}
use Rattle.aggregate_store.proofs.content.numbers_of.Goals as goal

pub returns-clause-keys : goal.returns-clause-keys
returns-clause-keys c =
    let none : c.loop-number.number-iterator ≡ [] = search rules in
    all_gathered c.loop-number.list _ (map scalar.Int c.loop-number.number-iterator) c.loop-number.invariant.0 (ap (map scalar.Int) none)
    ∙ sym (keys-of_keys scalar_cmp_total scalar_cmp-IsAntisymmetric (map scalar.Int c.args.numbers.now.keys) (numbers_rise c.args.numbers.now.keys c.iter-rest.ensures.ordered))
