use Rattle.std.proofs.Common.{◌-◌, Ok, Err, ap, sym, length, ◌∙◌}
use Rattle.std.proofs.lemmas.Result.{err_from_is_err_and}
use Rattle.flat_core.specs.System.{with_name}
use Rattle.equation_marks.specs.Marks.{printed_marks}
use Rattle.macro_flatten.specs.inner.Items.{items_in, kinds_in}
use Rattle.macro_flatten.proofs.Lists.{after_at}
use Rattle.macro_flatten.proofs.Outputs.{expression_made, name_printed, other_printed, printed_refused}
use Rattle.macro_flatten.proofs.TopPlaces.{can_print}
use Rattle.macro_flatten.proofs.context.Context.printed.Goals as goal

pub expression-requires : goal.expression-requires
expression-requires c = can_print c.args.self.now c.args.here.now c.args.expression.now c.requires

pub returns-in_err-stream-clause-refused : goal.returns-in_err-stream-clause-refused
returns-in_err-stream-clause-refused c =
    let p = err_from_is_err_and c.from_residual.result c.from_residual.ensures.1 in
    let i = c.args.here.now.around.number in
    after_at c.from_residual.result p.0 _ c.args.maker.now (printed_marks (items_in c.args.self.now) (kinds_in c.args.self.now) i c.args.expression.now) p.1 p.2
    (printed_refused c.args.self.now i c.args.expression.now c.args.maker.now _ (expression_made c.args.self.now c.args.here.now c.args.expression.now c.requires c.args.maker.now c.expression.new.maker (Err _) c.in_err-stream.ensures))

pub returns-then-is_only_name-clause-printed : goal.returns-then-is_only_name-clause-printed
returns-then-is_only_name-clause-printed c =
    let s = c.in_ok-stream.stream in
    name_printed c.args.self.now c.args.here.now.around.number c.args.expression.now c.args.name.now c.args.maker.now c.expression.new.maker s (sym c.is_only_name.ensures ∙ c.if-is_only_name.true)
    (expression_made c.args.self.now c.args.here.now c.args.expression.now c.requires c.args.maker.now c.expression.new.maker (Ok s) c.in_ok-stream.ensures)

pub returns-clause-printed : goal.returns-clause-printed
returns-clause-printed c =
    let s = c.in_ok-stream.stream in
    let mid = c.expression.new.maker in
    other_printed c.args.self.now c.args.here.now.around.number c.args.expression.now c.args.name.now c.args.maker.now mid c.name_last.new.self s (sym c.is_only_name.ensures ∙ c.if-is_only_name.false)
    (expression_made c.args.self.now c.args.here.now c.args.expression.now c.requires c.args.maker.now mid (Ok s) c.in_ok-stream.ensures)
    (c.name_last.ensures ∙ ap (with_name mid (length mid.equations - 1)) c.in_ok-copy.ensures)
