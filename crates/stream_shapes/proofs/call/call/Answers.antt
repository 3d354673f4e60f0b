use Rattle.std.proofs.Common.{◌∙◌, ap, sym}
use Rattle.std.proofs.lemmas.Result.{IfOk-weaker}
use Rattle.stream_shapes.specs.inner.Shape.{plain_shape}
use Rattle.stream_shapes.proofs.ShapeLemmas.{same_where}
use Rattle.stream_shapes.proofs.PlainLemmas.{call_as_plain}
use Rattle.stream_shapes.proofs.call.call.Goals as goal

pub returns-in-Some : goal.returns-in-Some
returns-in-Some c =
    let n = c.args.name.now in
    let es = c.args.arguments.now in
    IfOk-weaker c.own_call.result _ _
    (λ found h. same_where c.args.functions.now c.args.scope.now _ _ found (λ items cs. call_as_plain items cs n es ∙ ap (plain_shape items cs n es) (sym c.in-Some.ensures)) h)
    c.own_call.ensures

pub returns-in-None : goal.returns-in-None
returns-in-None c =
    let n = c.args.name.now in
    let es = c.args.arguments.now in
    IfOk-weaker c.declared_call.result _ _
    (λ found h. same_where c.args.functions.now c.args.scope.now _ _ found (λ items cs. call_as_plain items cs n es ∙ ap (plain_shape items cs n es) (sym c.in-None.ensures)) h)
    c.declared_call.ensures
