use Rattle.expr_types.specs.inner.Shown.{around_of}
use Rattle.expr_types.proofs.BodyLemmas.{mention_found}
use Rattle.expr_types.proofs.body.find_in_mention.Goals as goal

pub returns : goal.returns
returns c =
    mention_found (around_of c.args.at.now) c.args.place c.args.name.now c.mentioned-of.result c.asked_clash.result c.part_at.result c.mentioned-of.ensures c.asked_clash.ensures c.part_at.ensures
