use Rattle.std.proofs.Common.{map}
use Rattle.syntax_tree.specs.inner.OneLevel.{item_of}
use Rattle.expr_types.specs.inner.Shown.{around_of, kinds_of}
use Rattle.expr_types.proofs.BodyLemmas.{output_found}
use Rattle.expr_types.proofs.items.find_in_item.Goals as goal

pub returns-in-OutputAs : goal.returns-in-OutputAs
returns-in-OutputAs c =
    output_found c.find_in_expression.result (map item_of c.args.items.now) (kinds_of c.args.kinds.now) c.args.number c.args.names.now c.all-scope-in-OutputAs.result (around_of c.at_top-at-in-OutputAs.result) c.args.item.now c.in-OutputAs.field-0 c.in-OutputAs.field-2 c.in-OutputAs.expression c.in-OutputAs.field-3 c.requires c.all-scope-in-OutputAs.ensures c.at_top-at-in-OutputAs.ensures c.in-OutputAs.is c.find_in_expression.ensures
