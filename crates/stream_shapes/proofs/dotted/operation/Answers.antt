use Rattle.std.proofs.Common.{◌≡◌, ◌∷◌, ◌∙◌, ap, filter, rules}
use Rattle.spec_meaning.specs.Function.{dotted_tree, no_tree}
use Rattle.spec_meaning.specs.Shape.{is_part, operands}
use Rattle.function_bodies.specs.inner.Around.{two_or}
use Rattle.stream_constructs.specs.Construct.{operand_trees}
use Rattle.stream_shapes.proofs.DottedLemmas.{no_tree_of_many, no_tree_of_two, shape_of_body}
use Rattle.stream_shapes.proofs.dotted.operation.Goals as goal

pub returns-in-Some-Some : goal.returns-in-Some-Some
returns-in-Some-Some c =
    let es = c.args.arguments.now in
    let whole : es ≡ c.in-Some.first.now ∷ c.in-Some-split_first.second.now ∷ c.in-Some-Some.field-0-1.0.now ∷ c.in-Some-Some.field-0-1.1.now = search rules in
    shape_of_body c.misfit-in-Some-Some.result no_tree (dotted_tree c.args.function (operand_trees 0 (operands es))) (filter is_part es)
    (no_tree_of_many c.args.function es _ _ _ _ whole) c.misfit-in-Some-Some.ensures

pub returns-in-None-default : goal.returns-in-None-default
returns-in-None-default c =
    let es = c.args.arguments.now in
    let whole : es ≡ c.in-Some.first.now ∷ c.in-Some-split_first.second.now ∷ c.in-Some-split_first.rest.now = search rules in
    shape_of_body c.misfit-in-None-default.result no_tree (dotted_tree c.args.function (operand_trees 0 (operands es))) (filter is_part es)
    (no_tree_of_two c.args.function es _ _ _ whole (λ x y. c.dotted_two.ensures x y ∙ ap (λ o. two_or o x y) c.in-None-default.is-0)) c.misfit-in-None-default.ensures
