use Rattle.std.proofs.Common.{[], ◌∷◌, ap, subst, ◌∙◌}
use Rattle.std.specs.Prelude.{slice_get}
use Rattle.std.proofs.lemmas.Result.{IfErr-weaker, on_ok_weaker}
use Rattle.syntax_tree.specs.inner.OneLevel.{item_of}
use Rattle.equation_marks.specs.Marks.{stream_marks}
use Rattle.macro_flatten.specs.inner.Answers.{IsRefusedAfter}
use Rattle.macro_flatten.specs.inner.Items.{IsStreamMade, items_in, kinds_in}
use Rattle.macro_flatten.proofs.context.Context.definition.Goals as goal

pub make_definition-requires-clause-item : goal.make_definition-requires-clause-item
make_definition-requires-clause-item c = ap (slice_get (items_in c.args.self.now)) c.at_top-here.ensures.number ∙ c.requires.item

pub returns-clause-made : goal.returns-clause-made
returns-clause-made c =
    on_ok_weaker c.make_definition.result (subst (λ n. IsStreamMade c.args.self.now n (item_of c.args.item.now) c.args.maker.now c.make_definition.new.maker) c.at_top-here.ensures.number) c.make_definition.ensures.made

pub returns-clause-refused : goal.returns-clause-refused
returns-clause-refused c =
    IfErr-weaker c.make_definition.result (IsRefusedAfter c.args.maker.now (stream_marks (items_in c.args.self.now) (kinds_in c.args.self.now) c.at_top-here.result.around.number (item_of c.args.item.now ∷ []))) (IsRefusedAfter c.args.maker.now (stream_marks (items_in c.args.self.now) (kinds_in c.args.self.now) c.args.number (item_of c.args.item.now ∷ [])))
    (λ f h. subst (λ n. IsRefusedAfter c.args.maker.now (stream_marks (items_in c.args.self.now) (kinds_in c.args.self.now) n (item_of c.args.item.now ∷ [])) f) c.at_top-here.ensures.number h) c.make_definition.ensures.refused
