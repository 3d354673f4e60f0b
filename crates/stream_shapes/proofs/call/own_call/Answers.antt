use Rattle.std.proofs.Common.{[], refl}
use Rattle.std.proofs.lemmas.Result.{IfOk-weaker}
use Rattle.vocabulary.specs.declared.plain.Plain.TheVariants as plain
use Rattle.stream_constructs.specs.Construct as construct
use Rattle.spec_meaning.specs.Shape.{const_shape, filter_shape, lift_shape}
use Rattle.stream_shapes.proofs.PlainLemmas.{option_where, own_over, own_at, own_where}
use Rattle.stream_shapes.proofs.call.own_call.Goals as goal

pub returns-in-Time : goal.returns-in-Time
returns-in-Time c =
    IfOk-weaker c.over.result _ _
    (λ found h. own_over c.args.functions.now c.args.scope.now c.args.name.now c.args.arguments.now c.args.plain plain.Time c.in-Time.is construct.Time found (λ items cs. refl) h)
    c.over.ensures

pub returns-in-Last : goal.returns-in-Last
returns-in-Last c =
    IfOk-weaker c.over-in-Last.result _ _
    (λ found h. own_over c.args.functions.now c.args.scope.now c.args.name.now c.args.arguments.now c.args.plain plain.Last c.in-Last.is construct.Last found (λ items cs. refl) h)
    c.over-in-Last.ensures

pub returns-in-Delay : goal.returns-in-Delay
returns-in-Delay c =
    IfOk-weaker c.over-in-Delay.result _ _
    (λ found h. own_over c.args.functions.now c.args.scope.now c.args.name.now c.args.arguments.now c.args.plain plain.Delay c.in-Delay.is construct.Delay found (λ items cs. refl) h)
    c.over-in-Delay.ensures

pub returns-in-Merge : goal.returns-in-Merge
returns-in-Merge c =
    IfOk-weaker c.over-in-Merge.result _ _
    (λ found h. own_over c.args.functions.now c.args.scope.now c.args.name.now c.args.arguments.now c.args.plain plain.Merge c.in-Merge.is construct.Merge found (λ items cs. refl) h)
    c.over-in-Merge.ensures

pub returns-in-Default : goal.returns-in-Default
returns-in-Default c =
    IfOk-weaker c.over-in-Default.result _ _
    (λ found h. own_over c.args.functions.now c.args.scope.now c.args.name.now c.args.arguments.now c.args.plain plain.Default c.in-Default.is construct.Merge found (λ items cs. refl) h)
    c.over-in-Default.ensures

pub returns-in-Const : goal.returns-in-Const
returns-in-Const c =
    IfOk-weaker c.constant.result _ _
    (λ found h. own_at c.args.functions.now c.args.scope.now c.args.name.now c.args.arguments.now c.args.plain plain.Const c.in-Const.is (λ items cs. const_shape cs c.args.arguments.now) found (λ items cs. refl) h)
    c.constant.ensures

pub returns-in-Filter : goal.returns-in-Filter
returns-in-Filter c =
    IfOk-weaker c.filter.result _ _
    (λ found h. own_at c.args.functions.now c.args.scope.now c.args.name.now c.args.arguments.now c.args.plain plain.Filter c.in-Filter.is (λ items cs. filter_shape cs c.args.arguments.now) found (λ items cs. refl) h)
    c.filter.ensures

pub returns-in-Lift : goal.returns-in-Lift
returns-in-Lift c =
    IfOk-weaker c.lift.result _ _
    (λ found h. own_where c.args.functions.now c.args.scope.now c.args.name.now c.args.arguments.now c.args.plain plain.Lift c.in-Lift.is (λ items cs. lift_shape items cs [] c.args.arguments.now) found (λ items cs. refl) h)
    c.lift.ensures

pub returns-in-IsSome : goal.returns-in-IsSome
returns-in-IsSome c =
    IfOk-weaker c.declared_call.result _ _
    (λ found h. option_where c.args.functions.now c.args.scope.now c.args.name.now c.args.arguments.now c.args.plain c.in-IsSome.is found h)
    c.declared_call.ensures
