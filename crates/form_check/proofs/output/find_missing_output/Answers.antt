use Rattle.std.proofs.Common.{Some, ap, ◌∙◌}
use Rattle.form_check.proofs.AnyLemmas.{output_or_end}
use Rattle.form_check.proofs.output.find_missing_output.Goals as goal

pub returns-then-has_output : goal.returns-then-has_output
returns-then-has_output c = output_or_end c.items.result.now _ c.args.tree.now.end c.has_output.result _ c.items.ensures c.has_output.ensures c.if-has_output.true

pub returns-else-has_output : goal.returns-else-has_output
returns-else-has_output c =
    ap Some c.end.ensures ∙ output_or_end c.items.result.now _ c.args.tree.now.end c.has_output.result _ c.items.ensures c.has_output.ensures c.if-has_output.false
