use Rattle.std.proofs.Common.{refl}
use Rattle.tsl_value.specs.declared.operation.Binary.TheVariants as binary
use Rattle.body_eval.proofs.AtHand.{cell_asked, cell_found, cell_lives, cell_reads}
use Rattle.body_eval.proofs.quick.look_up.Goals as goal

pub get-requires-clause-live : goal.get-requires-clause-live
get-requires-clause-live g c =
    let cells = g.R.Reader.cells c.args.reader.now in
    cell_lives cells c.args.registers.now c.args.args.now c.args.map.now c.in-Aggregate-default.cell c.in_ok-cell.field-0.now c.in-Aggregate-default.is-0
    (c.in_ok-cell.ensures.value cells) (c.in_ok-cell.ensures.live cells) c.requires.live

pub get-requires-clause-map : goal.get-requires-clause-map
get-requires-clause-map g c =
    let cells = g.R.Reader.cells c.args.reader.now in
    (cell_reads cells c.args.registers.now c.args.args.now c.args.map.now c.in-Aggregate-default.cell c.in_ok-cell.field-0.now c.in-Aggregate-default.is-0
    (c.in_ok-cell.ensures.value cells) (c.in_ok-cell.ensures.live cells) c.args.key.now c.in_ok-key.key.now (c.in_ok-key.ensures cells) binary.Get refl c.requires).0

pub get-requires-clause-typed : goal.get-requires-clause-typed
get-requires-clause-typed g c =
    let cells = g.R.Reader.cells c.args.reader.now in
    (cell_reads cells c.args.registers.now c.args.args.now c.args.map.now c.in-Aggregate-default.cell c.in_ok-cell.field-0.now c.in-Aggregate-default.is-0
    (c.in_ok-cell.ensures.value cells) (c.in_ok-cell.ensures.live cells) c.args.key.now c.in_ok-key.key.now (c.in_ok-key.ensures cells) binary.Get refl c.requires).1

pub returns-in-Aggregate-default-clause-there : goal.returns-in-Aggregate-default-clause-there
returns-in-Aggregate-default-clause-there g c =
    let cells = g.R.Reader.cells c.args.reader.now in
    cell_asked cells c.args.registers.now c.args.args.now c.args.map.now c.in-Aggregate-default.cell c.in_ok-cell.field-0.now c.in-Aggregate-default.is-0
    (c.in_ok-cell.ensures.value cells) (c.in_ok-cell.ensures.live cells) c.args.key.now c.in_ok-key.key.now (c.in_ok-key.ensures cells) c.requires
    c.get.result c.get.ensures

pub returns-in-Aggregate-default-clause-value : goal.returns-in-Aggregate-default-clause-value
returns-in-Aggregate-default-clause-value g c =
    let cells = g.R.Reader.cells c.args.reader.now in
    cell_found cells c.args.registers.now c.args.args.now c.args.map.now c.in-Aggregate-default.cell c.in_ok-cell.field-0.now c.in-Aggregate-default.is-0
    (c.in_ok-cell.ensures.value cells) (c.in_ok-cell.ensures.live cells) c.args.key.now c.in_ok-key.key.now (c.in_ok-key.ensures cells) c.requires
    c.get.result c.get.ensures
