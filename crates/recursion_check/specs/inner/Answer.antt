-- The answer where a system is not well-formed.
use Rattle.std.specs.Prelude.{ℕ, List}
use Rattle.recursion_check.specs.declared.check.CycleFault.{CycleFault}
use Rattle.recursion_check.specs.declared.check.CycleFault.TheVariants.{Cycle, Memory}

-- what holds of the cycle, where it is one that is answered
abbrev pub OnCycle : (List ℕ → Type 0) → CycleFault → Type 0
OnCycle P (Cycle equations) = P equations
OnCycle P Memory = Unit {0}
