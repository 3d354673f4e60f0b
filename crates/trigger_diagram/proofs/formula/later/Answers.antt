use Rattle.trigger_rules.specs.declared.atom.Atom.TheVariants.{Start}
use Rattle.trigger_diagram.proofs.Truths.{denied_told}
use Rattle.trigger_diagram.proofs.formula.later.Goals as goal

pub returns-clause-exact : goal.returns-clause-exact
returns-clause-exact c = denied_told c.denied.new.self c.variable_of.result Start c.denied.result c.variable_of.ensures c.denied.ensures.there c.denied.ensures.exact
