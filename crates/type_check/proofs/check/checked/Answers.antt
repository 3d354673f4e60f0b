use Rattle.std.specs.Prelude.{map}
use Rattle.std.proofs.Common.{subst}
use Rattle.std.proofs.lemmas.Result.{err_from_is_err_and}
use Rattle.syntax_tree.specs.inner.OneLevel.{item_of, items_of}
use Rattle.expr_types.specs.Bodies.{AreKinds}
use Rattle.expr_types.specs.inner.Shown.{kinds_of}
use Rattle.type_check.proofs.CheckLemmas.{from_names, from_forms, from_cycle, from_late}
use Rattle.type_check.proofs.check.checked.Goals as goal

pub returns-in_err-names-clause-fault : goal.returns-in_err-names-clause-fault
returns-in_err-names-clause-fault c =
    let p = err_from_is_err_and c.from_residual.result c.from_residual.ensures.1 in
    rw (p.1, p.2) (from_names (items_of c.args.tree.now) c.args.tree.now.end c.in_err-names.field-0.0 c.in_err-names.ensures.err)

pub returns-in_err-check_forms-clause-fault : goal.returns-in_err-check_forms-clause-fault
returns-in_err-check_forms-clause-fault c =
    let p = err_from_is_err_and c.from_residual-in_err-check_forms.result c.from_residual-in_err-check_forms.ensures.1 in
    rw (p.1, p.2) (from_forms (items_of c.args.tree.now) c.args.tree.now.end (map item_of c.items.result.now) c.items.ensures c.in_ok-names.ensures.ok c.in_err-check_forms.field-0.0 c.in_err-check_forms.ensures.err)

pub returns-in_err-order-clause-fault : goal.returns-in_err-order-clause-fault
returns-in_err-order-clause-fault c =
    let p = err_from_is_err_and c.from_residual-in_err-order.result c.from_residual-in_err-order.ensures.1 in
    rw (p.1, p.2)
    (from_cycle (items_of c.args.tree.now) c.args.tree.now.end (map item_of c.items.result.now) c.items.ensures c.in_ok-names.ensures.ok c.in_ok-check_forms.ensures.ok c.in_err-order.field-0.0 c.in_err-order.ensures.err)

pub returns-in_err-check_expressions-clause-fault : goal.returns-in_err-check_expressions-clause-fault
returns-in_err-check_expressions-clause-fault c =
    let p = err_from_is_err_and c.from_residual-in_err-check_expressions.result c.from_residual-in_err-check_expressions.ensures.1 in
    rw (p.1, p.2)
    (from_late (items_of c.args.tree.now) c.args.tree.now.end (map item_of c.items.result.now) c.items.ensures c.in_ok-names.ensures.ok c.in_ok-check_forms.ensures.ok (kinds_of c.in_ok-kinds.kinds) c.in_err-check_expressions.field-0.0 c.in_ok-order.ensures.ok (subst (λ is. AreKinds is (kinds_of c.in_ok-kinds.kinds)) c.items-2.ensures c.in_ok-kinds.ensures) c.in_err-check_expressions.ensures.err)
