use Rattle.std.proofs.Common.{◌≡◌, take, []}
use Rattle.sample_systems.specs.Systems.{sample_equations}
use Rattle.sample_systems.proofs.systems.sample.Given as goal

abbrev pub invariant-loop-n : goal.invariant-loop-n
invariant-loop-n l = record { equations : l.builder.equations ≡ take l.n sample_equations; outputs : l.builder.outputs ≡ [] }
