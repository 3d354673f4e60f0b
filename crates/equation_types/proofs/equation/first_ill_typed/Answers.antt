use Rattle.std.proofs.lemmas.Result.{IfOk-weaker}
use Rattle.equation_types.proofs.Equations.{least_for, typed_for, proper_for}
use Rattle.equation_types.proofs.equation.first_ill_typed.Goals as goal

pub returns-clause-least : goal.returns-clause-least
returns-clause-least c = IfOk-weaker c.first_that_breaks.result _ _ (λ r first. least_for c.args.equations.now c.args.running.now r first) c.first_that_breaks.ensures

pub returns-clause-typed : goal.returns-clause-typed
returns-clause-typed c = IfOk-weaker c.first_that_breaks.result _ _ (λ r first. typed_for c.args.equations.now c.args.running.now r first) c.first_that_breaks.ensures

pub returns-clause-proper : goal.returns-clause-proper
returns-clause-proper c = IfOk-weaker c.first_that_breaks.result _ _ (λ r first. proper_for c.args.equations.now c.args.running.now r first) c.first_that_breaks.ensures
