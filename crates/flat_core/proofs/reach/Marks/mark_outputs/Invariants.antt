use Rattle.std.proofs.Common.{map, take}
use Rattle.flat_core.specs.inner.Marks.{Marked}
use Rattle.flat_core.proofs.reach.Marks.mark_outputs.Given as goal

abbrev pub invariant-loop-output : goal.invariant-loop-output
invariant-loop-output l = Marked (take l.output-index (map (λ o. o.equation) l.outputs)) l.fn.self l.self
