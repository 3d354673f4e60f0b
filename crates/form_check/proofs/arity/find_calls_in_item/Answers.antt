use Rattle.std.proofs.Common.{map, sym, ap, ◌∙◌}
use Rattle.std.specs.List.{flat_map}
use Rattle.syntax_tree.specs.inner.OneLevel.{item_of}
use Rattle.name_check.specs.Scope.{seen}
use Rattle.name_check.specs.Bodies.{item_bodies}
use Rattle.name_check.specs.Faults.{first}
use Rattle.form_check.specs.Arity.{wrong_in}
use Rattle.name_check.proofs.WalkLemmas.{alone_same, ok_same}
use Rattle.form_check.proofs.arity.find_calls_in_item.Goals as goal

pub returns-in-OutputAs : goal.returns-in-OutputAs
returns-in-OutputAs c =
    let names = c.args.names.now in
    let items = map item_of c.args.items.now in
    ok_same c.find_in_expression-in-OutputAs.result _ _
    (ap (λ l. first (wrong_in items (record { scope = seen l; expr = c.in-OutputAs.expression }))) c.all.ensures
    ∙ alone_same (wrong_in items) names c.in-OutputAs.expression
    ∙ ap (λ i. first (flat_map (wrong_in items) (item_bodies names (item_of i)))) (sym c.in-OutputAs.is))
    c.find_in_expression-in-OutputAs.ensures
