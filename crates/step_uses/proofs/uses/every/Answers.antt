use Rattle.step_uses.proofs.RowLemmas.{every_next}
use Rattle.step_uses.proofs.uses.every.Goals as goal

pub loop-number-preserved : goal.loop-number-preserved
loop-number-preserved c = every_next _ _ c.new.result _ c.in_ok-push.ensures.items c.new.ensures c.loop-number.invariant
