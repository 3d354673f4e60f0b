use Rattle.std.proofs.Common.{◌≡◌, Some, ap, sym, subst, ◌∙◌, arith}
use Rattle.std.proofs.lemmas.Option.{slice_get-get_or, slice_get_past}
use Rattle.std.specs.Prelude.{slice_get}
use Rattle.flat_core.specs.Line.{Line, is_line_on}
use Rattle.plain_solver.specs.inner.Lines.{IsLeast}
use Rattle.event_why.specs.inner.Sliced.{heard}
use Rattle.event_why.proofs.NextLemmas.{line_first, line_late, line_none}
use Rattle.event_why.proofs.next.least_line.Goals as goal

pub returns-then-place-lines : goal.returns-then-place-lines
returns-then-place-lines c s from at = line_none c.args.lines.now c.requires c.args.place c.args.high s from at (slice_get_past c.args.lines.now c.args.place c.if-place-lines.true)

pub returns-then-time-high : goal.returns-then-time-high
returns-then-time-high c s from at =
    let lines = c.args.lines.now in
    let line = c.index-lines-place.result in
    let is : slice_get lines c.args.place ≡ Some line = slice_get-get_or lines c.args.place line c.if-place-lines.false ∙ ap Some (sym c.index-lines-place.is) in
    let lt = c.if-time-high.true in
    let value = c.get-time.ensures.value in
    let same = ap (λ (l : Line). l.time) c.index-lines-place.is in
    let time : line.time ≡ c.get-time.result = omega (arith, value, same) in
    subst (IsLeast (λ u. is_line_on u (heard s lines)) from c.args.high) time
    (line_first lines c.requires c.args.place c.args.high s from at line is (omega (arith, lt, time)))

pub returns-else-time-high : goal.returns-else-time-high
returns-else-time-high c s from at =
    let lines = c.args.lines.now in
    let line = c.index-lines-place.result in
    let is : slice_get lines c.args.place ≡ Some line = slice_get-get_or lines c.args.place line c.if-place-lines.false ∙ ap Some (sym c.index-lines-place.is) in
    let late = c.if-time-high.false in
    let value = c.get-time.ensures.value in
    let same = ap (λ (l : Line). l.time) c.index-lines-place.is in
    line_late lines c.requires c.args.place c.args.high s from at line is (omega (arith, late, value, same))
