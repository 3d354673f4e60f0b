use Rattle.std.proofs.Common.{get_or, ◌∙◌, arith}
use Rattle.alias_nears.proofs.asked.mark_merged.Goals as goal

pub loop-variable-preserved : goal.loop-variable-preserved
loop-variable-preserved c = c.in_ok-mark_if.ensures.one_each ∙ c.loop-variable.invariant
