use Rattle.std.proofs.Common.{[], ◌∷◌, ap, subst, ◌∙◌}
use Rattle.std.specs.Prelude.{slice_get}
use Rattle.std.proofs.lemmas.Result.{IfErr-weaker, on_ok_weaker}
use Rattle.syntax_tree.specs.inner.OneLevel.{item_of}
use Rattle.equation_marks.specs.Marks.{output_marks}
use Rattle.macro_flatten.specs.inner.Answers.{IsRefusedAfter}
use Rattle.macro_flatten.specs.inner.Items.{AreOutputsMade, items_in, kinds_in}
use Rattle.macro_flatten.proofs.context.Context.output.Goals as goal

pub make_output-requires-clause-item : goal.make_output-requires-clause-item
make_output-requires-clause-item c = ap (slice_get (items_in c.args.self.now)) c.at_top-here.ensures.number ∙ c.requires.item

pub returns-clause-made : goal.returns-clause-made
returns-clause-made c =
    on_ok_weaker c.make_output.result (subst (λ n. AreOutputsMade c.args.self.now n (item_of c.args.item.now ∷ []) c.args.maker.now c.make_output.new.maker) c.at_top-here.ensures.number) c.make_output.ensures.made

pub returns-clause-refused : goal.returns-clause-refused
returns-clause-refused c =
    IfErr-weaker c.make_output.result (IsRefusedAfter c.args.maker.now (output_marks (items_in c.args.self.now) (kinds_in c.args.self.now) c.at_top-here.result.around.number (item_of c.args.item.now ∷ []))) (IsRefusedAfter c.args.maker.now (output_marks (items_in c.args.self.now) (kinds_in c.args.self.now) c.args.number (item_of c.args.item.now ∷ [])))
    (λ f h. subst (λ n. IsRefusedAfter c.args.maker.now (output_marks (items_in c.args.self.now) (kinds_in c.args.self.now) n (item_of c.args.item.now ∷ [])) f) c.at_top-here.ensures.number h) c.make_output.ensures.refused
