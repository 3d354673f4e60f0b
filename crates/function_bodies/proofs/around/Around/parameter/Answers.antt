use Rattle.std.proofs.Common.{Some, ap, ◌∙◌, refl, arith}
use Rattle.function_bodies.proofs.CallLemmas.{parameter_past, parameter_at}
use Rattle.function_bodies.proofs.around.Around.parameter.Goals as goal

pub returns-then-number-self : goal.returns-then-number-self
returns-then-number-self c = c.unit.ensures ∙ parameter_past c.args.self.now.params.now c.args.number (omega arith)

pub returns-else-number-self : goal.returns-else-number-self
returns-else-number-self c = ap Some c.argument.ensures ∙ parameter_at c.args.self.now.params.now c.args.number c.args.number refl c.if-number-self.false
