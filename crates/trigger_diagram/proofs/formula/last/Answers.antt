use Rattle.trigger_diagram.proofs.Truths.{both_of, tells_both, tells_old, tells_on}
use Rattle.trigger_diagram.proofs.formula.last.Goals as goal

pub returns-clause-exact : goal.returns-clause-exact
returns-clause-exact c =
    both_of c.later.new.arena c.both-2.new.arena c.in_ok-later.later c.in_ok-asked.asked c.both-2.result c.in_ok-later.ensures.exact
    (tells_on c.both.new.arena c.later.new.arena c.in_ok-asked.asked c.later.ensures.grows
    (tells_both c.unless.new.arena c.both.new.arena c.args.trigger c.in_ok-there.there c.in_ok-asked.asked (tells_old c.args.arena.now c.unless.new.arena c.args.trigger c.unless.ensures.grows c.requires) c.in_ok-there.ensures.exact c.in_ok-asked.ensures.exact))
    c.both-2.ensures.exact
