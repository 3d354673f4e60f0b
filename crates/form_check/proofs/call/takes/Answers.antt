use Rattle.std.proofs.Common.{Some, None, map, sym, ap, ◌∙◌}
use Rattle.syntax_tree.specs.inner.OneLevel.{item_of}
use Rattle.name_check.specs.Scope.{seen}
use Rattle.form_check.specs.Arity.{declared_takes}
use Rattle.form_check.proofs.OwnLemmas.{takes_found}
use Rattle.form_check.proofs.call.takes.Goals as goal

pub returns-in-Some : goal.returns-in-Some
returns-in-Some c = takes_found (map item_of c.args.items.now) (seen c.args.scope.now) c.args.name.now (Some c.in-Some.number) c.if-is_unit.ensures c.in-Some.ensures

pub returns-in-None : goal.returns-in-None
returns-in-None c =
    let items = map item_of c.args.items.now in
    c.declared_takes.ensures ∙ ap (declared_takes items) c.find.ensures
    ∙ takes_found items (seen c.args.scope.now) c.args.name.now None c.if-is_unit.ensures c.in-None.ensures
