use Rattle.trigger_diagram.proofs.Truths.{atom_told}
use Rattle.trigger_diagram.proofs.formula.atom.Goals as goal

pub returns-clause-exact : goal.returns-clause-exact
returns-clause-exact c = atom_told c.variable.new.self c.variable_of.result c.args.atom c.variable.result c.variable_of.ensures c.variable.ensures.there c.variable.ensures.exact
