use Rattle.equation_marks.proofs.Counts.{choice_counted}
use Rattle.equation_marks.proofs.own.choice.Goals as goal

pub returns-then-aggregate : goal.returns-then-aggregate
returns-then-aggregate c =
    choice_counted c.args.condition.now c.args.yes.now c.args.no.now c.args.aggregate c.varying_three-varying.result c.operation.result c.if-aggregate.true c.varying_three-varying.ensures.count c.operation.ensures
