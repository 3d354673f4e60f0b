use Rattle.std.proofs.Common.{◌≡◌, take, []}
use Rattle.flat_tests.specs.Small.{small_equations}
use Rattle.flat_tests.proofs.tests.small_system.small_system.Given as goal

abbrev pub invariant-loop-n : goal.invariant-loop-n
invariant-loop-n l = record { equations : l.builder.equations ≡ take l.n small_equations; outputs : l.builder.outputs ≡ [] }
