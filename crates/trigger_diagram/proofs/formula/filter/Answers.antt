use Rattle.decision_diagrams.proofs.Nodes.{grows_on}
use Rattle.trigger_diagram.proofs.Truths.{both_of, tells_both, tells_old}
use Rattle.trigger_diagram.proofs.formula.filter.Goals as goal

pub returns-clause-exact : goal.returns-clause-exact
returns-clause-exact c =
    both_of c.both.new.arena c.both-2.new.arena c.args.events c.in_ok-meets.meets c.both-2.result
    (tells_old c.args.arena.now c.both.new.arena c.args.events (grows_on c.args.arena.now c.atom.new.arena c.both.new.arena c.atom.ensures.grows c.both.ensures.grows) c.requires.events)
    (tells_both c.atom.new.arena c.both.new.arena c.args.condition c.in_ok-holds.holds c.in_ok-meets.meets (tells_old c.args.arena.now c.atom.new.arena c.args.condition c.atom.ensures.grows c.requires.condition) c.in_ok-holds.ensures.exact c.in_ok-meets.ensures.exact)
    c.both-2.ensures.exact
