use Rattle.std.proofs.Common.{refl}
use Rattle.tsl_value.specs.declared.operation.Binary.TheVariants as binary
use Rattle.body_eval.proofs.AtHand.{cell_contains, cell_lives, cell_reads}
use Rattle.body_eval.proofs.quick.is_there.Goals as goal

pub contains-requires-clause-live : goal.contains-requires-clause-live
contains-requires-clause-live g c =
    let cells = g.R.Reader.cells c.args.reader.now in
    cell_lives cells c.args.registers.now c.args.args.now c.args.aggregate.now c.in-Aggregate-default.cell c.in_ok-cell.field-0.now c.in-Aggregate-default.is-0
    (c.in_ok-cell.ensures.value cells) (c.in_ok-cell.ensures.live cells) c.requires.live

pub contains-requires-clause-typed : goal.contains-requires-clause-typed
contains-requires-clause-typed g c =
    let cells = g.R.Reader.cells c.args.reader.now in
    cell_reads cells c.args.registers.now c.args.args.now c.args.aggregate.now c.in-Aggregate-default.cell c.in_ok-cell.field-0.now c.in-Aggregate-default.is-0
    (c.in_ok-cell.ensures.value cells) (c.in_ok-cell.ensures.live cells) c.args.key.now c.in_ok-key.key.now (c.in_ok-key.ensures cells) binary.Contains refl c.requires

pub returns-in-Aggregate-default : goal.returns-in-Aggregate-default
returns-in-Aggregate-default g c =
    let cells = g.R.Reader.cells c.args.reader.now in
    cell_contains cells c.args.registers.now c.args.args.now c.args.aggregate.now c.in-Aggregate-default.cell c.in_ok-cell.field-0.now c.in-Aggregate-default.is-0
    (c.in_ok-cell.ensures.value cells) (c.in_ok-cell.ensures.live cells) c.args.key.now c.in_ok-key.key.now (c.in_ok-key.ensures cells) c.requires
    c.contains.result c.contains.ensures
