use Rattle.std.proofs.Common.{sym, ◌∙◌}
use Rattle.plan_check.proofs.Placing.{no_step, unplaced_if}
use Rattle.plan_check.proofs.places.is_unplaced.Goals as goal

pub returns-then-not-is_step : goal.returns-then-not-is_step
returns-then-not-is_step c = no_step c.args.flat.now c.args.places.now c.args.number (sym c.is_step.ensures ∙ c.if-not-is_step.true)

pub returns : goal.returns
returns c =
    unplaced_if c.args.flat.now c.assert_whole.ensures.is_flat c.args.places.now c.args.number (sym c.is_step.ensures ∙ c.if-not-is_step.false) c.is_free.result c.is_free.ensures
