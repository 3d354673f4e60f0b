use Rattle.std.proofs.Common.{List, subst, sym}
use Rattle.flat_core.specs.declared.line.TraceLine.{TraceLine}
use Rattle.plain_solver.specs.inner.Lines.{IsLeast}
use Rattle.std.proofs.lemmas.List.{take_rest}
use Rattle.plain_solver.proofs.LinesLemmas.{least_placed, sorted_rest}
use Rattle.plain_solver.proofs.line.least_line.Goals as goal
use Rattle.flat_core.specs.Line.{IsSorted, is_line_on}

pub returns : goal.returns
returns c =
    let ls = c.args.lines.now in
    let k = c.count_before.result in
    let P : List TraceLine → Type 0 = λ xs. IsLeast (λ u. is_line_on u xs) 0 c.args.high c.first_event.result in
    least_placed ls k c.args.low c.args.high c.first_event.result c.count_before.ensures.place (subst P (take_rest ls k) c.first_event.ensures)

pub first_event-requires : goal.first_event-requires
first_event-requires c = subst IsSorted (sym (take_rest c.args.lines.now c.count_before.result)) (sorted_rest c.args.lines.now c.count_before.result c.requires)
