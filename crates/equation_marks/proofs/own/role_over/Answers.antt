use Rattle.equation_marks.proofs.Counts.{updates_counted}
use Rattle.equation_marks.proofs.own.role_over.Goals as goal

pub returns-in-Update : goal.returns-in-Update
returns-in-Update c = updates_counted c.args.role c.in-Update.field-0 c.args.operands.now c.operation_over.result c.in-Update.is c.operation_over.ensures
