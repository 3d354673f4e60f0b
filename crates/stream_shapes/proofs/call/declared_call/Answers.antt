use Rattle.std.proofs.Common.{◌∙◌, sym}
use Rattle.std.proofs.lemmas.Result.{IfOk-weaker}
use Rattle.syntax_tree.specs.inner.OneLevel.{exprs_of}
use Rattle.stream_shapes.proofs.ShapeLemmas.{function_where, no_function_where}
use Rattle.stream_shapes.proofs.call.declared_call.Goals as goal

pub returns-in-Some : goal.returns-in-Some
returns-in-Some c =
    IfOk-weaker c.function_call.result _ _
    (λ found h. function_where c.args.functions.now c.args.scope.now c.args.name.now c.in-Some.number c.args.arguments.now found (sym c.find.ensures ∙ c.in-Some.ensures) h)
    c.function_call.ensures

pub returns-in-None : goal.returns-in-None
returns-in-None c =
    no_function_where c.args.functions.now c.args.scope.now c.args.name.now (exprs_of c.args.arguments.now) c.nothing.result
    (λ i h. c.in-None.ensures i (c.find.ensures ∙ h))
