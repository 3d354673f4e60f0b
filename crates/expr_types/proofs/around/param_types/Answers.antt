use Rattle.std.proofs.Common.{rules}
use Rattle.syntax_tree.specs.inner.OneLevel.{params_in}
use Rattle.expr_types.specs.Around.{param_types}
use Rattle.expr_types.proofs.ArgumentLemmas.{params_none}
use Rattle.expr_types.proofs.around.param_types.Goals as goal

pub returns-in-None : goal.returns-in-None
returns-in-None c =
    params_none c.args.params.now c.loop-param.param-index c.param-item.result c.loop-param.types.items (param_types (params_in c.args.params.now)) c.loop-param-test.true c.param-item.is c.loop-param.invariant (search rules)
