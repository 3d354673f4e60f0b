use Rattle.std.proofs.Common.{ap}
use Rattle.std.proofs.lemmas.Result.{err_from_is_err_and}
use Rattle.body_eval.proofs.CellReads.{of_scalar, scalar_fault, scalar_held}
use Rattle.body_eval.proofs.read.unary_at.Goals as goal

pub returns-in_err-unary_at_scalar-in-Neg-clause-value : goal.returns-in_err-unary_at_scalar-in-Neg-clause-value
returns-in_err-unary_at_scalar-in-Neg-clause-value g c =
    let p = err_from_is_err_and c.from_residual.result c.from_residual.ensures.1 in
    let cells = g.R.Reader.cells c.args.reader.now in
    scalar_fault cells c.args.o (ap of_scalar c.in-Neg.is) c.args.a c.requires.live c.in_err-unary_at_scalar-in-Neg.field-0.0 (c.in_err-unary_at_scalar-in-Neg.ensures cells) p.0 c.from_residual.result p.2 p.1

pub returns-in_err-unary_at_scalar-in-Not-clause-value : goal.returns-in_err-unary_at_scalar-in-Not-clause-value
returns-in_err-unary_at_scalar-in-Not-clause-value g c =
    let p = err_from_is_err_and c.from_residual-in_err-unary_at_scalar-in-Not.result c.from_residual-in_err-unary_at_scalar-in-Not.ensures.1 in
    let cells = g.R.Reader.cells c.args.reader.now in
    scalar_fault cells c.args.o (ap of_scalar c.in-Not.is) c.args.a c.requires.live c.in_err-unary_at_scalar-in-Not.field-0.0 (c.in_err-unary_at_scalar-in-Not.ensures cells) p.0 c.from_residual-in_err-unary_at_scalar-in-Not.result p.2 p.1

pub returns-in_err-unary_at_scalar-in-Length-clause-value : goal.returns-in_err-unary_at_scalar-in-Length-clause-value
returns-in_err-unary_at_scalar-in-Length-clause-value g c =
    let p = err_from_is_err_and c.from_residual-in_err-unary_at_scalar-in-Length.result c.from_residual-in_err-unary_at_scalar-in-Length.ensures.1 in
    let cells = g.R.Reader.cells c.args.reader.now in
    scalar_fault cells c.args.o (ap of_scalar c.in-Length.is) c.args.a c.requires.live c.in_err-unary_at_scalar-in-Length.field-0.0 (c.in_err-unary_at_scalar-in-Length.ensures cells) p.0 c.from_residual-in_err-unary_at_scalar-in-Length.result p.2 p.1

pub returns-in_ok-unary_at_scalar-in-Neg-clause-value : goal.returns-in_ok-unary_at_scalar-in-Neg-clause-value
returns-in_ok-unary_at_scalar-in-Neg-clause-value g c =
    let cells = g.R.Reader.cells c.args.reader.now in
    scalar_held cells c.args.o (ap of_scalar c.in-Neg.is) c.args.a c.requires.live c.in_ok-unary_at_scalar-in-Neg.field-0 (c.in_ok-unary_at_scalar-in-Neg.ensures cells)

pub returns-in_ok-unary_at_scalar-in-Not-clause-value : goal.returns-in_ok-unary_at_scalar-in-Not-clause-value
returns-in_ok-unary_at_scalar-in-Not-clause-value g c =
    let cells = g.R.Reader.cells c.args.reader.now in
    scalar_held cells c.args.o (ap of_scalar c.in-Not.is) c.args.a c.requires.live c.in_ok-unary_at_scalar-in-Not.field-0 (c.in_ok-unary_at_scalar-in-Not.ensures cells)

pub returns-in_ok-unary_at_scalar-in-Length-clause-value : goal.returns-in_ok-unary_at_scalar-in-Length-clause-value
returns-in_ok-unary_at_scalar-in-Length-clause-value g c =
    let cells = g.R.Reader.cells c.args.reader.now in
    scalar_held cells c.args.o (ap of_scalar c.in-Length.is) c.args.a c.requires.live c.in_ok-unary_at_scalar-in-Length.field-0 (c.in_ok-unary_at_scalar-in-Length.ensures cells)
