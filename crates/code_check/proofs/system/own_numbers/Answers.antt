use Rattle.code_check.proofs.Unchanged.{one_more}
use Rattle.code_check.proofs.system.own_numbers.Goals as goal

pub loop-number-preserved : goal.loop-number-preserved
loop-number-preserved c =
    one_more c.loop-number.number c.new.result c.loop-number.numbers c.push.new.self c.loop-number.invariant c.new.ensures c.in_ok-push.ensures
