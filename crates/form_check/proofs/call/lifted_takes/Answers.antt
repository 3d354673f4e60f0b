use Rattle.std.proofs.Common.{map, sym, ap, ◌∙◌}
use Rattle.syntax_tree.specs.Tree.{place_of}
use Rattle.syntax_tree.specs.inner.OneLevel.{expr_of, item_of}
use Rattle.name_check.specs.Scope.{seen, meaning}
use Rattle.form_check.proofs.CountLemmas.{named, unnamed}
use Rattle.form_check.proofs.call.lifted_takes.Goals as goal

pub returns-in-Name : goal.returns-in-Name
returns-in-Name c =
    named (map item_of c.args.items.now) (seen c.args.scope.now) c.args.arguments.now c.in_ok-function.field-0-1.now c.in_ok-function.function.now (place_of c.in_ok-function.function.now) c.in-Name.name c.find.result c.function_takes.result c.in_ok-function.ensures.cases.0
    (ap (expr_of (place_of c.in_ok-function.function.now)) (sym c.in-Name.is) ∙ c.node.ensures)
    (c.find.ensures ∙ ap (meaning (seen c.args.scope.now)) c.as_str.ensures)
    c.function_takes.ensures

pub returns-in_default : goal.returns-in_default
returns-in_default c =
    unnamed (map item_of c.args.items.now) (seen c.args.scope.now) c.args.arguments.now c.in_ok-function.field-0-1.now c.in_ok-function.function.now (place_of c.in_ok-function.function.now) c.node.result.now c.in_ok-function.ensures.cases.0 c.node.ensures c.in_default.not-Name
