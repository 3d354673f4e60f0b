use Rattle.std.proofs.Common.{◌≡◌, [], ◌∷◌, if◌then◌else◌, refl, ap, subst, ◌∙◌}
use Rattle.syntax_tree.specs.inner.OneLevel.{params_in, body_of}
use Rattle.syntax_tree.specs.declared.tree.Param.{Param}
use Rattle.std.specs.Prelude.{List}
use Rattle.name_check.specs.Scope.{seen, are_values, functions_of, parameters_from, Agree}
use Rattle.name_check.specs.Faults.{first, unknown_in}
use Rattle.name_check.specs.inner.Steps.{unknown_in_body}
use Rattle.name_check.proofs.UnknownLemmas.{unknown_same}
use Rattle.name_check.proofs.WalkLemmas.{definition_same, ok_same}
use Rattle.name_check.proofs.unknown.find_in_definition.Goals as goal

pub returns : goal.returns
returns c =
    let level = c.in_ok-parameters.field-0 in
    let names = c.args.names.now in
    let params = params_in c.args.parts.now.params.items in
    let body = body_of c.args.parts.now.body in
    let outer = if are_values params then functions_of names else names in
    let P : List Param → Type 0 = λ ps. Agree level (parameters_from 0 (params_in ps)) in
    let agrees : Agree level (parameters_from 0 params) = subst P c.deref-2.ensures.value c.in_ok-parameters.ensures in
    let around : c.around-outer.result ≡ outer ∷ [] = c.around-outer.ensures ∙ ap (λ ps. (if are_values (params_in ps) then functions_of names else names) ∷ []) c.deref.ensures.value in
    ok_same c.find_in_body.result _ _
    (ap (λ l. first (unknown_in_body (seen l) body)) (c.inner-scope.ensures ∙ ap (λ l. level ∷ l) around)
    ∙ definition_same unknown_in unknown_same names level outer params body refl agrees)
    c.find_in_body.ensures
