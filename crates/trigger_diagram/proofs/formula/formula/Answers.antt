use Rattle.trigger_diagram.specs.inner.Made.{value_at}
use Rattle.trigger_diagram.proofs.Truths.{never_told}
use Rattle.trigger_diagram.proofs.formula.formula.Goals as goal

pub returns-in-Never-clause-exact : goal.returns-in-Never-clause-exact
returns-in-Never-clause-exact c = never_told c.args.arena.now c.args.rule.now c.args.own c.args.starts.now (value_at c.args.arena.now c.args.nodes.now) c.in-Never.is
