use Rattle.std.proofs.Common.{map}
use Rattle.tsl_value.specs.declared.scalar.Scalar.TheVariants as scalar
use Rattle.aggregate_store.proofs.Numbers.{numbers_rise, numbers_same}
use Rattle.aggregate_store.proofs.SameCells.{sets_same}
use Rattle.aggregate_store.proofs.same.is_same_numbers.Goals as goal

pub returns : goal.returns
returns c =
    let xs = c.args.a.now.keys in let ys = c.args.b.now.keys in
    sets_same (map scalar.Int xs) (map scalar.Int ys) _ (numbers_same xs ys _ c.eq.ensures) (numbers_rise xs c.iter.ensures.ordered) (numbers_rise ys c.iter-2.ensures.ordered)
