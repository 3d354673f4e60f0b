use Rattle.std.proofs.Common.{◌≡◌, take, []}
use Rattle.sample_systems.specs.Systems.{merged_equations}
use Rattle.sample_systems.proofs.systems.merged.Given as goal

abbrev pub invariant-loop-n : goal.invariant-loop-n
invariant-loop-n l = record { equations : l.builder.equations ≡ take l.n merged_equations; outputs : l.builder.outputs ≡ [] }
