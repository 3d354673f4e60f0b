use Rattle.std.proofs.Common.{◌≡◌, [], ◌∷◌, ◌++◌, None, rules, sym, ap, ◌∙◌}
use Rattle.name_check.specs.declared.declaration.Declaration.TheVariants as declaration
use Rattle.name_check.specs.Faults.{first, again}
use Rattle.name_check.specs.inner.Steps.{names_of}
use Rattle.name_check.proofs.TwiceLemmas.{params_turn, if_none}
use Rattle.name_check.proofs.twice.find_in_params.Goals as goal

pub loop-param-preserved : goal.loop-param-preserved
loop-param-preserved c =
    let none : c.in_ok-place.field-0 ≡ None = search rules in
    params_turn c.args.params.now c.loop-param.param-index c.param-item.result c.loop-param.before c.declare.new.names (declaration.Parameter 0) _ c.loop-param-test.true c.param-item.is c.loop-param.invariant
    (sym none ∙ c.in_ok-place.ensures.found ∙ ap (λ n. first (again (names_of c.loop-param.before) c.param-item.result.place n)) c.as_str.ensures)
    (if_none c.in_ok-place.field-0 _ c.in_ok-place.ensures.declared none ∙ ap (λ n. c.loop-param.before ++ record { name = n; is = declaration.Parameter 0 } ∷ []) c.as_str.ensures)
