use Rattle.std.proofs.Common.{◌≡◌, length}
use Rattle.function_bodies.proofs.functions.missing.Given as goal

abbrev pub invariant-loop : goal.invariant-loop
invariant-loop l = length l.bodies.items ≡ l.counter
