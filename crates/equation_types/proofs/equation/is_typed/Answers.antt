use Rattle.std.proofs.lemmas.Result.{IfOk-weaker}
use Rattle.equation_types.proofs.Equations.{exactly_typed}
use Rattle.equation_types.proofs.equation.is_typed.Goals as goal

pub returns : goal.returns
returns c = IfOk-weaker c.is_typed_among.result _ _ (λ r is. exactly_typed c.args.equations.now c.args.equation.now r is) c.is_typed_among.ensures
