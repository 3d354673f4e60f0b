use Rattle.expr_types.specs.inner.Shown.{around_of}
use Rattle.expr_types.proofs.BodyLemmas.{expr_found}
use Rattle.expr_types.proofs.body.find_in_expression.Goals as goal

pub returns-in-Ok : goal.returns-in-Ok
returns-in-Ok c =
    expr_found (around_of c.args.at.now) c.args.written c.args.body.now c.in-Ok.of c.place.result c.asked_clash-clash.result c.part_at.result c.in-Ok.ensures c.asked_clash-clash.ensures c.place.ensures c.part_at.ensures
