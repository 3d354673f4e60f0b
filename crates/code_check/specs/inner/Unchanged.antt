-- Systems of their parts, and numbers that leave a system as it is.
use Rattle.std.specs.Prelude.{ℕ, List}
use Rattle.std.specs.List.{range_with_len}
use Rattle.flat_core.specs.declared.equation.Equation.{Equation}
use Rattle.flat_core.specs.declared.equation.Output.{Output}
use Rattle.flat_core.specs.System.{System}

abbrev pub system_in : List Equation → List Output → List ℕ → System
system_in equations outputs running = record { equations = equations; outputs = outputs; running = running }

-- each of so many equations has its own number
abbrev pub own_numbers : ℕ → List ℕ
own_numbers count = range_with_len 0 count
