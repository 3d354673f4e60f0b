use Rattle.std.proofs.Common.{[], ◌∷◌, ◌-◌, ap, length, ◌∙◌}
use Rattle.std.proofs.lemmas.Result.{err_from_is_err_and}
use Rattle.flat_core.specs.System.{with_name}
use Rattle.syntax_tree.specs.inner.OneLevel.{item_of}
use Rattle.equation_marks.specs.Marks.{stream_marks}
use Rattle.macro_flatten.specs.inner.Items.{items_in, kinds_in}
use Rattle.macro_flatten.proofs.Definitions.{can_define, definition_made, definition_refused, other_made}
use Rattle.macro_flatten.proofs.Lists.{after_at}
use Rattle.macro_flatten.proofs.context.Context.make_definition.Goals as goal

pub body-requires : goal.body-requires
body-requires c =
    can_define c.args.self.now c.requires.ready c.args.here.now c.requires.here (item_of c.args.item.now) c.requires.item c.in-Some.definition.now c.in-Some.ensures c.result_of.result.now c.result_of.ensures

pub returns-in_err-_stream-clause-refused : goal.returns-in_err-_stream-clause-refused
returns-in_err-_stream-clause-refused c =
    let p = err_from_is_err_and c.from_residual.result c.from_residual.ensures.1 in
    after_at c.from_residual.result p.0 _ c.args.maker.now (stream_marks (items_in c.args.self.now) (kinds_in c.args.self.now) c.args.here.now.around.number (item_of c.args.item.now ∷ [])) p.1 p.2
    (definition_refused c.args.self.now c.requires.ready c.args.here.now c.requires.here (item_of c.args.item.now) c.requires.item c.in-Some.definition.now c.in-Some.ensures c.result_of.result.now c.result_of.ensures c.args.maker.now c.body.new.maker _ c.in_err-_stream.ensures)

pub returns-in_ok-copy-clause-made : goal.returns-in_ok-copy-clause-made
returns-in_ok-copy-clause-made c =
    let mid = c.body.new.maker in
    definition_made c.args.self.now c.requires.ready c.args.here.now c.requires.here (item_of c.args.item.now) c.requires.item c.in-Some.definition.now c.in-Some.ensures c.result_of.result.now c.result_of.ensures c.args.maker.now mid c.name_last.new.self c.in_ok-_stream._stream c.in_ok-_stream.ensures
    (c.name_last.ensures ∙ ap (with_name mid (length mid.equations - 1)) c.in_ok-copy.ensures)

pub returns-in_default-clause-made : goal.returns-in_default-clause-made
returns-in_default-clause-made c = other_made c.args.self.now c.args.here.now.around.number (item_of c.args.item.now) c.args.maker.now c.in_default.ensures
