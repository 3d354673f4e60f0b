-- The aggregates that last registers hold.
use Rattle.std.specs.Prelude.{ℕ, Bool, false, length, Option, Some, None}
use Rattle.std.specs.List.{filter}
use Rattle.flat_core.specs.declared.equation.Equation.{Equation}
use Rattle.flat_core.specs.System.{System, equation}
use Rattle.flat_core.specs.Kept.{keeps_of}
use Rattle.tsl_value.specs.Aggregate.{is_aggregate}

abbrev pub is_stored_type : Option Equation → Bool
is_stored_type None = false
is_stored_type (Some e) = is_aggregate e.of

-- how many equations of an aggregate's type are first arguments of running lasts
abbrev pub stored_count : System → ℕ
stored_count s = length (filter (λ i. is_stored_type (equation s i)) (keeps_of s))
