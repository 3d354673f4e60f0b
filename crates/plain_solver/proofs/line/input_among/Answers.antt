use Rattle.std.proofs.Common.{◌<◌, sym, arith}
use Rattle.plain_solver.proofs.LinesLemmas.{input_past, input_found, input_late, input_end}
use Rattle.plain_solver.proofs.line.input_among.Goals as goal

pub loop-line-preserved : goal.loop-line-preserved
loop-line-preserved c =
    input_past c.args.lines.now c.loop-line.line-index c.line-item.result c.loop-line-test.true c.line-item.is c.args.i c.args.t _ c.loop-line.invariant
    (sym c.in_default.ensures)

pub returns-in-Some : goal.returns-in-Some
returns-in-Some c =
    input_found c.args.lines.now c.loop-line.line-index c.line-item.result c.loop-line-test.true c.line-item.is c.args.i c.args.t _ c.loop-line.invariant
    _ (sym c.in-Some.ensures)

pub returns : goal.returns
returns c = input_end c.args.lines.now c.loop-line.line-index c.args.i c.args.t _ c.loop-line-test.false c.loop-line.invariant

pub returns-then-get : goal.returns-then-get
returns-then-get c =
    let late : c.args.t < c.line-item.result.time = omega arith in
    input_late c.args.lines.now c.loop-line.line-index c.line-item.result c.loop-line-test.true c.line-item.is c.args.i c.args.t _ c.loop-line.invariant
    c.requires late
