use Rattle.std.proofs.Common.{sym, ◌∙◌, subst, arith}
use Rattle.plain_solver.specs.inner.Lines.{IsLeast}
use Rattle.plain_solver.proofs.LinesLemmas.{line_past, line_late, line_found, line_end}
use Rattle.plain_solver.proofs.line.first_event.Goals as goal
use Rattle.flat_core.specs.Line.{is_line_on}

pub loop-line-preserved : goal.loop-line-preserved
loop-line-preserved c =
    line_past c.args.lines.now c.loop-line.line-index c.line-item.result c.loop-line-test.true c.line-item.is c.args.high c.requires c.loop-line.invariant
    (sym c.is_some.ensures ∙ c.if-is_some.false)

pub returns-then-high-time : goal.returns-then-high-time
returns-then-high-time c =
    line_late c.args.lines.now c.loop-line.line-index c.line-item.result c.loop-line-test.true c.line-item.is c.args.high c.requires c.loop-line.invariant
    (omega arith)

pub returns-then-is_some : goal.returns-then-is_some
returns-then-is_some c =
    subst (IsLeast (λ u. is_line_on u c.args.lines.now) 0 c.args.high) (sym c.get-time.ensures.value)
    (line_found c.args.lines.now c.loop-line.line-index c.line-item.result c.loop-line-test.true c.line-item.is c.args.high c.requires c.loop-line.invariant
    (omega arith) (sym c.is_some.ensures ∙ c.if-is_some.true))

pub returns : goal.returns
returns c = line_end c.args.lines.now c.loop-line.line-index c.args.high c.loop-line-test.false c.loop-line.invariant
