use Rattle.std.proofs.Common.{◌≡◌, ◌++◌, map, take, drop}
use Rattle.event_why.specs.inner.Pruned.{new_number}
use Rattle.event_why.proofs.prune.renumber.Given as goal

abbrev pub invariant-loop-n : goal.invariant-loop-n
invariant-loop-n l = l.by ≡ map (new_number l.numbers) (take l.n-index l.initial.by) ++ drop l.n-index l.initial.by
