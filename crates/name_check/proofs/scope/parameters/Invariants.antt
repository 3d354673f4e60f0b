use Rattle.std.proofs.Common.{◌++◌, drop}
use Rattle.syntax_tree.specs.inner.OneLevel.{params_in}
use Rattle.name_check.specs.Scope.{parameters_from, Agree}
use Rattle.name_check.proofs.scope.parameters.Given as goal

abbrev pub invariant-loop-number : goal.invariant-loop-number
invariant-loop-number l = Agree (l.names ++ parameters_from l.number (params_in (drop l.number l.params))) (parameters_from 0 (params_in l.params))
