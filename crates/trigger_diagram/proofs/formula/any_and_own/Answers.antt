use Rattle.trigger_diagram.proofs.Truths.{both_of, tells_on}
use Rattle.trigger_diagram.proofs.formula.any_and_own.Goals as goal

pub returns-clause-exact : goal.returns-clause-exact
returns-clause-exact c =
    both_of c.atom.new.arena c.both.new.arena c.in_ok-own.own c.in_ok-any.any c.both.result c.in_ok-own.ensures.exact
    (tells_on c.any.new.arena c.atom.new.arena c.in_ok-any.any c.atom.ensures.grows c.in_ok-any.ensures.exact) c.both.ensures.exact
