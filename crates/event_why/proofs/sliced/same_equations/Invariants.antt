use Rattle.std.proofs.Common.{◌≡◌, take, []}
use Rattle.event_why.proofs.sliced.same_equations.Given as goal

abbrev pub invariant-loop-n : goal.invariant-loop-n
invariant-loop-n l = record { equations : l.builder.equations ≡ take l.n l.flat.equations; outputs : l.builder.outputs ≡ [] }
