use Rattle.equation_marks.specs.declared.own.TheConstants.{ENOUGH}
use Rattle.std.proofs.Common.{◌<◌, arith}
use Rattle.equation_marks.proofs.Counts.{lifting_counted}
use Rattle.equation_marks.proofs.own.lifting.Goals as goal

pub returns-then-operands : goal.returns-then-operands
returns-then-operands c =
    let many : 2 < c.args.operands = omega (arith, c.in_default) in
    lifting_counted c.args.operands c.more.result many c.more.ensures

pub returns-else-operands : goal.returns-else-operands
returns-else-operands c =
    let many : 2 < c.args.operands = omega (arith, c.in_default) in
    lifting_counted c.args.operands ENOUGH many (omega (arith, c.if-operands.false))
