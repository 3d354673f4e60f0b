use Rattle.std.proofs.Common.{◌≡◌, drop}
use Rattle.syntax_tree.specs.inner.OneLevel.{params_in}
use Rattle.name_check.specs.Faults.{first}
use Rattle.form_check.specs.Types.{bad_in_params}
use Rattle.form_check.proofs.written.find_in_params.Given as goal

abbrev pub invariant-loop-param : goal.invariant-loop-param
invariant-loop-param l = first (bad_in_params (params_in (drop l.param-index l.params))) ≡ first (bad_in_params (params_in l.params))
