use Rattle.trigger_diagram.proofs.Truths.{either_told}
use Rattle.trigger_diagram.proofs.formula.either.Goals as goal

pub returns-clause-exact : goal.returns-clause-exact
returns-clause-exact c = either_told c.args.arena.now c.join.new.self c.args.first c.args.second c.join.result c.join.ensures.grows c.requires.first c.requires.second c.join.ensures.exact
