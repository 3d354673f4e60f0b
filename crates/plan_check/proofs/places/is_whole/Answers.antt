use Rattle.plan_check.proofs.Ordering.{not_whole, whole_if}
use Rattle.plan_check.proofs.places.is_whole.Goals as goal

pub returns-then-not-all_stand : goal.returns-then-not-all_stand
returns-then-not-all_stand c =
    not_whole c.args.flat.now c.args.places.now c.args.pairs.now c.all_stand.result c.if-not-all_stand.true c.all_stand.ensures

pub returns : goal.returns
returns c =
    whole_if c.args.flat.now c.args.places.now c.args.pairs.now (c.all_stand.ensures.0 c.if-not-all_stand.false) c.agree.result c.agree.ensures
