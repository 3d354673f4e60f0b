use Rattle.std.proofs.Common.{arith}
use Rattle.alias_paths.proofs.Using.{all_uses_next, all_uses}
use Rattle.alias_paths.proofs.uses.uses_of.Goals as goal

pub loop-number-preserved : goal.loop-number-preserved
loop-number-preserved c = all_uses_next c.args.flat.now c.loop-number.number c.loop-number.uses c.push_uses.new.uses c.loop-number.invariant c.in_ok-push_uses.ensures

pub returns : goal.returns
returns c = let all = c.count-number-end.ensures.count in all_uses c.args.flat.now c.loop-number.number c.loop-number.uses (omega arith) c.loop-number.invariant
