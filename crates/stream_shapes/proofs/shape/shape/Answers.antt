use Rattle.std.proofs.lemmas.Result.{IfOk-weaker}
use Rattle.stream_shapes.proofs.NodeLemmas.{at_place}
use Rattle.stream_shapes.proofs.shape.shape.Goals as goal

pub returns : goal.returns
returns c =
    IfOk-weaker c.node_shape.result _ _
    (λ found h. at_place c.args.functions.now c.args.scope.now c.args.expression.now c.node.result.now found c.node.ensures h)
    c.node_shape.ensures
