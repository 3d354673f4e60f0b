use Rattle.std.proofs.Common.{◌≡◌, Some, drop}
use Rattle.syntax_tree.specs.inner.OneLevel.{params_in}
use Rattle.expr_types.specs.Around.{param_types}
use Rattle.expr_types.specs.inner.Steps.{joined}
use Rattle.expr_types.proofs.around.param_types.Given as goal

abbrev pub invariant-loop-param : goal.invariant-loop-param
invariant-loop-param l = joined (Some l.types.items) (param_types (params_in (drop l.param-index l.params))) ≡ param_types (params_in l.params)
