use Rattle.std.proofs.Common.{◌≡◌, [], ◌∷◌, ◌++◌, ◌∙◌, sym, rules}
use Rattle.std.proofs.lemmas.Result.{IfOk-weaker}
use Rattle.stream_shapes.proofs.ShapeLemmas.{lift_where, no_lift_where}
use Rattle.stream_shapes.proofs.call.lift.Goals as goal

pub returns-in-Some-function_of : goal.returns-in-Some-function_of
returns-in-Some-function_of c =
    let whole : c.args.arguments.now ≡ c.in-Some.streams.now ++ c.in-Some.function.now ∷ [] = search rules in
    IfOk-weaker c.function_lift.result _ _
    (λ found h. lift_where c.args.functions.now c.args.scope.now c.args.arguments.now c.in-Some.streams.now c.in-Some.function.now c.in-Some-function_of.number found whole (λ items. sym (c.function_named.ensures items) ∙ c.in-Some-function_of.ensures) h)
    c.function_lift.ensures

pub returns-in-None : goal.returns-in-None
returns-in-None c =
    let whole : c.args.arguments.now ≡ c.in-Some.streams.now ++ c.in-Some.function.now ∷ [] = search rules in
    no_lift_where c.args.functions.now c.args.scope.now c.args.arguments.now c.in-Some.streams.now c.in-Some.function.now _ whole
    (λ items i h. c.in-None.ensures i (c.function_named.ensures items ∙ h))
