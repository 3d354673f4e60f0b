use Rattle.std.proofs.Common.{ap, sym, ◌∙◌, arith}
use Rattle.syntax_tree.specs.inner.OneLevel.{item_of}
use Rattle.macro_flatten.proofs.StreamItems.{called_definition, plain_definition}
use Rattle.macro_flatten.proofs.top.stream_definition.Goals as goal

pub returns-then-is_empty : goal.returns-then-is_empty
returns-then-is_empty c =
    plain_definition (item_of c.args.item.now) c.in-Defined.field-0 c.in-Defined.definition c.parts-parts.result.now (ap item_of c.in-Defined.is) c.parts-parts.ensures.is _ (omega (arith, c.parts-parts.result.now.params.ok.0)) (sym c.is_empty.ensures ∙ c.if-is_empty.true)

pub returns-else-is_empty : goal.returns-else-is_empty
returns-else-is_empty c =
    called_definition (item_of c.args.item.now) c.in-Defined.field-0 c.in-Defined.definition c.parts-parts.result.now (ap item_of c.in-Defined.is) c.parts-parts.ensures.is _ (omega (arith, c.parts-parts.result.now.params.ok.0)) (sym c.is_empty.ensures ∙ c.if-is_empty.false)
