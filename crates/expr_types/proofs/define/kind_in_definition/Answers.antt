use Rattle.std.proofs.Common.{map, ap}
use Rattle.syntax_tree.specs.inner.OneLevel.{body_of, item_of, params_in}
use Rattle.expr_types.specs.inner.Shown.{kinds_of}
use Rattle.expr_types.proofs.BodyLemmas.{inside_agrees, definition_is}
use Rattle.expr_types.proofs.define.kind_in_definition.Goals as goal

pub returns : goal.returns
returns c =
    let items = map item_of c.args.items.now in
    let parts = c.args.parts.now in
    let qs = params_in c.as_slice-params.result.now in
    let ps = params_in parts.params.items in
    definition_is c.definition_kind.result items (kinds_of c.args.kinds.now) c.args.number c.inner-scope.result c.setting_of.result qs ps parts.written (body_of parts.body)
    (inside_agrees items c.args.names.now c.in_ok-parameters.field-0 c.around-outer.result c.inner-scope.result qs ps c.requires.names c.in_ok-parameters.ensures c.around-outer.ensures c.inner-scope.ensures (ap params_in c.as_slice-params.ensures.value))
    c.setting_of.ensures (ap params_in c.as_slice-params.ensures.value) c.definition_kind.ensures
