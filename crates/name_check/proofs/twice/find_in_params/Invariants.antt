use Rattle.std.proofs.Common.{◌≡◌, [], drop}
use Rattle.syntax_tree.specs.inner.OneLevel.{params_in}
use Rattle.name_check.specs.Faults.{first, twice_in_params}
use Rattle.name_check.specs.inner.Steps.{names_of}
use Rattle.name_check.proofs.twice.find_in_params.Given as goal

abbrev pub invariant-loop-param : goal.invariant-loop-param
invariant-loop-param l = first (twice_in_params (names_of l.before) (params_in (drop l.param-index l.params))) ≡ first (twice_in_params [] (params_in l.params))
