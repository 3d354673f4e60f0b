use Rattle.std.proofs.Common.{ℕ, pos, subst}
use Rattle.lift_func.specs.Apply.{int}
use Rattle.body_eval.specs.inner.Answered.{IsInt}
use Rattle.body_eval.proofs.AtHand.{cell_lives, cell_size}
use Rattle.body_eval.proofs.quick.size.Goals as goal

pub size-requires : goal.size-requires
size-requires g c =
    let cells = g.R.Reader.cells c.args.reader.now in
    cell_lives cells c.args.registers.now c.args.args.now c.args.aggregate.now c.in-Aggregate.cell c.in_ok-cell.field-0.now c.in-Aggregate.is
    (c.in_ok-cell.ensures.value cells) (c.in_ok-cell.ensures.live cells) c.requires.live

pub returns-in-Aggregate : goal.returns-in-Aggregate
returns-in-Aggregate g c =
    let cells = g.R.Reader.cells c.args.reader.now in
    cell_size cells c.args.registers.now c.args.args.now c.args.aggregate.now c.in-Aggregate.cell c.in_ok-cell.field-0.now c.in-Aggregate.is
    (c.in_ok-cell.ensures.value cells) (c.in_ok-cell.ensures.live cells) c.requires.live
    c.int_of.result (subst (λ (n : ℕ). IsInt c.int_of.result (int (pos n))) c.size.ensures c.int_of.ensures) c.ok.result c.ok.ensures.value
