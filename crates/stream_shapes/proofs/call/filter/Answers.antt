use Rattle.std.proofs.Common.{◌≡◌, [], ◌∷◌, ◌++◌, length, arith, rules}
use Rattle.std.proofs.lemmas.Result.{IfOk-weaker}
use Rattle.stream_shapes.proofs.ShapeLemmas.{filtered_by_literal, filtered}
use Rattle.stream_shapes.proofs.call.filter.Goals as goal

pub returns-in-Some-condition_of : goal.returns-in-Some-condition_of
returns-in-Some-condition_of c =
    let whole : c.args.arguments.now ≡ c.in-Some.streams.now ++ c.in-Some.condition.now ∷ [] = search rules in
    let one : length c.in-Some.streams.now ≡ 1 = omega arith in
    IfOk-weaker c.over.result _ _
    (λ found h. filtered_by_literal c.args.arguments.now c.in-Some.streams.now c.in-Some.condition.now c.in-Some-condition_of.holds found whole one c.in-Some-condition_of.ensures h)
    c.over.ensures

pub returns-in-None : goal.returns-in-None
returns-in-None c =
    let whole : c.args.arguments.now ≡ c.in-Some.streams.now ++ c.in-Some.condition.now ∷ [] = search rules in
    let one : length c.in-Some.streams.now ≡ 1 = omega arith in
    IfOk-weaker c.over-in-None.result _ _
    (λ found h. filtered c.args.arguments.now c.in-Some.streams.now c.in-Some.condition.now found whole one c.in-None.ensures h)
    c.over-in-None.ensures
