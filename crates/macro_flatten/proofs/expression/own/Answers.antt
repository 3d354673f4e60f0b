use Rattle.std.proofs.Common.{◌≡◌, length, map, vec_len, sym, ◌∙◌, arith}
use Rattle.stream_constructs.specs.Equations.{choice_equations}
use Rattle.spec_meaning.specs.Shape.{operand}
use Rattle.stream_shapes.specs.inner.Shape.{construct_of}
use Rattle.macro_flatten.specs.inner.Own.{own_of}
use Rattle.macro_flatten.proofs.Own.{chosen, chosen_own, made_same, stream_same, refused_same}
use Rattle.macro_flatten.proofs.expression.own.Goals as goal
use Rattle.macro_flatten.proofs.expression.own.Goals.{After-make_choice}

-- the equations that are made are those of the choice
same : (c : After-make_choice) → choice_equations c.place.result c.args.of (length c.args.maker.now.equations) (map operand c.in_ok-operands.operands.items) c.args.parts.now ≡ own_of c.args.expression.now c.args.of (length c.args.maker.now.equations) (construct_of c.args.construct) c.args.parts.now
same c =
    let operands = c.in_ok-operands.operands in
    let long : vec_len operands ≡ length operands.items = omega (arith, operands.ok.0) in
    chosen_own c.args.expression.now c.place.result c.args.of (length c.args.maker.now.equations) (construct_of c.args.construct) c.args.parts.now operands.items c.place.ensures c.in_ok-operands.ensures
    (chosen c.args.expression.now c.args.of operands.items (vec_len operands) c.in_ok-operands.ensures long (sym c.is_empty.ensures ∙ c.if-not-is_empty.true) (sym c.is_aggregate.ensures ∙ c.if-is_aggregate.true))

pub returns-then-is_aggregate-clause-made : goal.returns-then-is_aggregate-clause-made
returns-then-is_aggregate-clause-made c =
    made_same c.args.maker.now c.make_choice.new.maker c.args.of c.make_choice.result _ _ (same (goal.at.returns-then-is_aggregate-clause-made c).After-make_choice) c.make_choice.ensures.made

pub returns-then-is_aggregate-clause-stream : goal.returns-then-is_aggregate-clause-stream
returns-then-is_aggregate-clause-stream c =
    stream_same c.args.maker.now c.make_choice.new.maker c.args.of c.make_choice.result _ _ (same (goal.at.returns-then-is_aggregate-clause-stream c).After-make_choice) c.make_choice.ensures.stream

pub returns-then-is_aggregate-clause-refused : goal.returns-then-is_aggregate-clause-refused
returns-then-is_aggregate-clause-refused c =
    refused_same c.args.maker.now c.make_choice.new.maker c.args.of c.make_choice.result _ _ (same (goal.at.returns-then-is_aggregate-clause-refused c).After-make_choice) c.make_choice.ensures.refused
