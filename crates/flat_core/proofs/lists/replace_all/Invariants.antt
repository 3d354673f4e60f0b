use Rattle.std.proofs.Common.{◌≡◌, ◌++◌, map, take, drop}
use Rattle.flat_core.specs.Renumbered.{new_number}
use Rattle.flat_core.proofs.lists.replace_all.Given as goal

abbrev pub invariant-loop-id : goal.invariant-loop-id
invariant-loop-id l = l.ids ≡ map (new_number l.replaced) (take l.id-index l.initial.ids) ++ drop l.id-index l.initial.ids
