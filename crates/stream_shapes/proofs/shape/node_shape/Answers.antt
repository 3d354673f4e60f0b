use Rattle.std.proofs.Common.{◌∙◌, ap, sym}
use Rattle.std.proofs.lemmas.Result.{IfOk-weaker}
use Rattle.syntax_tree.specs.inner.OneLevel.{expr_of, exprs_of}
use Rattle.syntax_tree.specs.declared.tree.Node.TheVariants as node
use Rattle.syntax_tree.specs.Tree as tree
use Rattle.name_check.specs.inner.Shown.{nowhere}
use Rattle.spec_meaning.specs.Function.{literal}
use Rattle.spec_meaning.specs.Shape.{expr_shape, literal_shape, empty_shape, dotted_shape, call_shape, plain_name}
use Rattle.stream_shapes.proofs.ShapeLemmas.{listed}
use Rattle.stream_shapes.proofs.NodeLemmas.{at_node, where_node}
use Rattle.stream_shapes.proofs.shape.node_shape.Goals as goal

pub returns-in-Number : goal.returns-in-Number
returns-in-Number c =
    IfOk-weaker c.literal_shape.result _ _
    (λ found h. at_node c.args.functions.now c.args.scope.now c.args.node.now (node.Number c.in-Number.field-0) _ found c.in-Number.is (λ items cs. ap (λ n. literal_shape items cs (literal (expr_of nowhere n))) (sym c.in-Number.is)) h)
    c.literal_shape.ensures

pub returns-in-Negative : goal.returns-in-Negative
returns-in-Negative c =
    IfOk-weaker c.literal_shape-in-Negative.result _ _
    (λ found h. at_node c.args.functions.now c.args.scope.now c.args.node.now (node.Negative c.in-Negative.field-0) _ found c.in-Negative.is (λ items cs. ap (λ n. literal_shape items cs (literal (expr_of nowhere n))) (sym c.in-Negative.is)) h)
    c.literal_shape-in-Negative.ensures

pub returns-in-Text : goal.returns-in-Text
returns-in-Text c =
    IfOk-weaker c.literal_shape-in-Text.result _ _
    (λ found h. at_node c.args.functions.now c.args.scope.now c.args.node.now (node.Text c.in-Text.field-0) _ found c.in-Text.is (λ items cs. ap (λ n. literal_shape items cs (literal (expr_of nowhere n))) (sym c.in-Text.is)) h)
    c.literal_shape-in-Text.ensures

pub returns-in-Boolean : goal.returns-in-Boolean
returns-in-Boolean c =
    IfOk-weaker c.literal_shape-in-Boolean.result _ _
    (λ found h. at_node c.args.functions.now c.args.scope.now c.args.node.now (node.Boolean c.in-Boolean.field-0) _ found c.in-Boolean.is (λ items cs. ap (λ n. literal_shape items cs (literal (expr_of nowhere n))) (sym c.in-Boolean.is)) h)
    c.literal_shape-in-Boolean.ensures

pub returns-in-Name : goal.returns-in-Name
returns-in-Name c =
    at_node c.args.functions.now c.args.scope.now c.args.node.now (node.Name c.in-Name.name) _ c.name_shape.result c.in-Name.is
    (λ items cs. ap (λ n. expr_shape items cs (tree.Name nowhere n)) (sym c.as_str.ensures))
    c.name_shape.ensures

pub returns-in-Call : goal.returns-in-Call
returns-in-Call c =
    IfOk-weaker c.call.result _ _
    (λ found h. where_node c.args.functions.now c.args.scope.now c.args.node.now (node.Call c.in-Call.name c.in-Call.arguments) _ found c.in-Call.is
    (λ items cs. ap (λ n. call_shape items cs n (exprs_of c.in-Call.arguments.items) (plain_name n)) (sym c.as_str-in-Call.ensures) ∙ ap (λ es. call_shape items cs c.as_str-in-Call.result.now (exprs_of es) (plain_name c.as_str-in-Call.result.now)) (sym c.deref-in-Call.ensures.value)) h)
    c.call.ensures

pub returns-in-CallDotted : goal.returns-in-CallDotted
returns-in-CallDotted c =
    IfOk-weaker c.dotted.result _ _
    (λ found h. at_node c.args.functions.now c.args.scope.now c.args.node.now (node.CallDotted c.in-CallDotted.function c.in-CallDotted.arguments) _ found c.in-CallDotted.is
    (λ items cs. ap (dotted_shape cs c.in-CallDotted.function) (listed c.in-CallDotted.arguments.items ∙ sym c.deref-in-CallDotted.ensures.value)) h)
    c.dotted.ensures

pub returns-in-Empty : goal.returns-in-Empty
returns-in-Empty c =
    at_node c.args.functions.now c.args.scope.now c.args.node.now (node.Empty c.in-Empty.of) _ c.empty_shape.result c.in-Empty.is
    (λ items cs. ap (empty_shape items cs) (sym c.aggregate_of.ensures)) c.empty_shape.ensures
