use Rattle.std.proofs.Common.{◌≡◌, []}
use Rattle.code_check.specs.inner.Unchanged.{system_in}
use Rattle.code_check.proofs.system.with_equations.Given as goal

abbrev pub invariant-loop-equation : goal.invariant-loop-equation
invariant-loop-equation l = l.builder ≡ system_in l.yielded [] []
