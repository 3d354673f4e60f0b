use Rattle.std.proofs.Common.{sym, ap, ◌∙◌}
use Rattle.syntax_tree.specs.inner.OneLevel.{item_of}
use Rattle.name_check.specs.Scope.{seen}
use Rattle.name_check.specs.Faults.{first, unknown_in}
use Rattle.name_check.specs.inner.Steps.{unknown_in_item}
use Rattle.name_check.proofs.WalkLemmas.{alone_same, ok_same}
use Rattle.name_check.proofs.unknown.find_in_item.Goals as goal

pub returns-in-OutputAs : goal.returns-in-OutputAs
returns-in-OutputAs c =
    let names = c.args.names.now in
    ok_same c.find_in_expression-in-OutputAs.result _ _
    (ap (λ l. first (unknown_in (record { scope = seen l; expr = c.in-OutputAs.expression }))) c.all-in-OutputAs.ensures
    ∙ alone_same unknown_in names c.in-OutputAs.expression
    ∙ ap (λ i. first (unknown_in_item names (item_of i))) (sym c.in-OutputAs.is))
    c.find_in_expression-in-OutputAs.ensures
