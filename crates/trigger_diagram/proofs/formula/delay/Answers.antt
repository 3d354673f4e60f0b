use Rattle.trigger_diagram.proofs.Truths.{both_of, tells_on}
use Rattle.trigger_diagram.proofs.formula.delay.Goals as goal

pub returns-clause-exact : goal.returns-clause-exact
returns-clause-exact c =
    both_of c.later.new.arena c.both.new.arena c.in_ok-later.later c.in_ok-own.own c.both.result c.in_ok-later.ensures.exact
    (tells_on c.atom.new.arena c.later.new.arena c.in_ok-own.own c.later.ensures.grows c.in_ok-own.ensures.exact) c.both.ensures.exact
