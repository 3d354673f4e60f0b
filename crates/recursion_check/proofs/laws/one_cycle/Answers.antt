use Rattle.std.proofs.Common.{length}
use Rattle.translation_order.proofs.Cycles.{one_cycle}
use Rattle.recursion_check.specs.Feeds.{Feeds}
use Rattle.recursion_check.proofs.laws.one_cycle.Goals as goal

pub returns : goal.returns
returns c s = one_cycle (length s.equations) (Feeds s)
