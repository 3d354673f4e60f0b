use Rattle.std.proofs.Common.{◌≡◌, ap, ◌∙◌}
use Rattle.spec_meaning.specs.Shape.{operands}
use Rattle.stream_constructs.specs.Construct.{operand_trees}
use Rattle.lift_func.specs.inner.Placed.{within}
use Rattle.spec_meaning.specs.Function.{function_at}
use Rattle.stream_shapes.proofs.ShapeLemmas.{call_found}
use Rattle.stream_shapes.proofs.call.function_call.Goals as goal

pub returns : goal.returns
returns c =
    let same : c.deref.result.now ≡ operand_trees 0 (operands c.args.arguments.now) = c.deref.ensures.value ∙ c.in_ok-operands.ensures in
    λ items right small function. (
    let there = call_found items c.args.functions.now c.args.number (operands c.args.arguments.now) right small function in
    let at = c.in_ok-body.ensures items right function in
    let moved = ap (λ ts. within (function_at items c.args.number ts)) same in
    absurd (cc))
