use Rattle.std.proofs.Common.{◌≡◌, map, take}
use Rattle.definition_cycles.proofs.kinds.turned.Given as goal

abbrev pub invariant-loop-from : goal.invariant-loop-from
invariant-loop-from l = l.turned ≡ map (λ e. (e.1, e.0)) (take l.from-index l.edges)
