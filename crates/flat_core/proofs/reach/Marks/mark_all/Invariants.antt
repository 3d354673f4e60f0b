use Rattle.std.proofs.Common.{map, take}
use Rattle.flat_core.specs.inner.Marks.{Marked}
use Rattle.flat_core.specs.Renumbered.{new_number}
use Rattle.flat_core.proofs.reach.Marks.mark_all.Given as goal

abbrev pub invariant-loop-id : goal.invariant-loop-id
invariant-loop-id l = Marked (take l.id-index (map (new_number l.replaced) l.ids)) l.fn.self l.self
