use Rattle.translation_order.proofs.Walks.{cycle_answer}
use Rattle.translation_order.proofs.cycle.cycle_from.Goals as goal

pub returns : goal.returns
returns c =
    cycle_answer c.args.pairs.now c.args.waits.now c.in_ok-before.before.items c.as_slice.result.now c.args.start c.in_ok-walk.walk.steps c.as_slice-steps.result.now c.in_ok-walk.walk.again c.place_of.result c.turned.result c.requires.pairs c.in_ok-before.ensures c.as_slice.ensures.value c.requires.start c.in_ok-walk.ensures c.as_slice-steps.ensures c.place_of.ensures.there c.place_of.ensures.is c.turned.ensures
