use Rattle.delay_timers.proofs.ApartLemmas.{stays_apart, gives_way, is_put_apart, joins_others}
use Rattle.delay_timers.proofs.apart.arrange.Goals as goal

pub returns-then-comes_first : goal.returns-then-comes_first
returns-then-comes_first c =
    stays_apart c.args.first c.args.others.now c.args.due c.requires.stands c.requires.there c.other_than.result c.other_than.ensures c.in-Some.other c.in-Some.is
    (c.comes_first.ensures.yes c.if-comes_first.true) c.set.new.self c.set.ensures

pub returns-else-comes_first : goal.returns-else-comes_first
returns-else-comes_first c =
    gives_way c.args.first c.args.others.now c.args.due c.requires.stands c.requires.there c.other_than.result c.other_than.ensures c.in-Some.other c.in-Some.is
    (c.comes_first.ensures.no c.if-comes_first.false) c.cancel.new.self c.set-else-comes_first.new.self c.cancel.ensures c.set-else-comes_first.ensures

pub returns-then-is_before_all : goal.returns-then-is_before_all
returns-then-is_before_all c =
    is_put_apart c.args.first c.args.others.now c.args.due c.requires.stands c.requires.there c.other_than.result c.other_than.ensures c.in-None.is
    (c.is_before_all.ensures c.if-is_before_all.true) c.cancel-then-is_before_all.new.self c.cancel-then-is_before_all.ensures

pub returns-else-is_before_all : goal.returns-else-is_before_all
returns-else-is_before_all c =
    joins_others c.args.first c.args.others.now c.args.due c.requires.stands c.requires.there c.other_than.result c.other_than.ensures c.in-None.is
    c.set-else-is_before_all.new.self c.set-else-is_before_all.ensures
