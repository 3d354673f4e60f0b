use Rattle.std.proofs.Common.{map}
use Rattle.flat_core.specs.inner.Marks.{left, Spreading}
use Rattle.flat_core.specs.Needed.{HasArgument}
use Rattle.flat_core.specs.Renumbered.{with_new_args}
use Rattle.flat_core.proofs.reach.Marks.spread.Given as goal

abbrev pub invariant-loop-id : goal.invariant-loop-id
invariant-loop-id l = Spreading (HasArgument (map (with_new_args l.replaced) l.equations)) l.fn.self l.self

abbrev pub decreases-loop-id : goal.decreases-loop-id
decreases-loop-id l = left l.self
