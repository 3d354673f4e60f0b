use Rattle.equation_types.proofs.Equations.{fits_with, not_fit}
use Rattle.equation_types.proofs.equation.fits.Goals as goal

pub returns-then-branch : goal.returns-then-branch
returns-then-branch c =
    let at = c.equation_at-equation in
    fits_with c.args.equations.now c.args.running.now c.args.id at.result.now at.ensures (c.in_ok-is_typed.ensures.0 c.if-branch.true) c.may_run.result c.may_run.ensures

pub returns-else-branch : goal.returns-else-branch
returns-else-branch c =
    let at = c.equation_at-equation in
    not_fit c.args.equations.now c.args.running.now c.args.id at.result.now at.ensures c.in_ok-is_typed.field-0 c.if-branch.false c.in_ok-is_typed.ensures
