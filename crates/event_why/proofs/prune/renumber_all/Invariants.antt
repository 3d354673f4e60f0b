use Rattle.std.proofs.Common.{◌≡◌, ◌++◌, map, take, drop}
use Rattle.std.specs.Option.{option_map}
use Rattle.event_why.specs.inner.Pruned.{new_number}
use Rattle.event_why.proofs.prune.renumber_all.Given as goal

abbrev pub invariant-loop-number : goal.invariant-loop-number
invariant-loop-number l = l.known ≡ map (option_map (new_number l.numbers)) (take l.number-index l.initial.known) ++ drop l.number-index l.initial.known
