use Rattle.std.proofs.Common.{◌≡◌, map, take}
use Rattle.lift_func.specs.inner.Placed.{within}
use Rattle.function_bodies.proofs.functions.copies.Given as goal

abbrev pub invariant-loop-body : goal.invariant-loop-body
invariant-loop-body l = l.copies.items ≡ map within (take l.body-index l.bodies)
