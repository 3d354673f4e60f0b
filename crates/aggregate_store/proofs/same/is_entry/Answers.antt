use Rattle.std.proofs.Common.{rules, ◌≡◌, ap, ◌∙◌}
use Rattle.tsl_value.specs.declared.scalar.Scalar.TheVariants as scalar
use Rattle.aggregate_store.proofs.SameCells.{entry_same}
use Rattle.aggregate_store.proofs.same.is_entry.Goals as goal

pub returns-then-n-number : goal.returns-then-n-number
returns-then-n-number c =
    let same : c.in-Int.n ≡ c.args.number.now = search rules in
    entry_same c.args.key.now c.args.found.now c.args.value.now c.args.number.now _ (c.in-Int.is ∙ ap scalar.Int same) c.eq.ensures
