use Rattle.trigger_diagram.proofs.Truths.{tells_started}
use Rattle.trigger_diagram.proofs.formula.unless.Goals as goal

pub returns-then-started-clause-exact : goal.returns-then-started-clause-exact
returns-then-started-clause-exact c = tells_started c.args.arena.now c.args.started c.args.own c.if-started.true
