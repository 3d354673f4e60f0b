-- What is kept from one instant to the next: the latest events that lasts ask for, and the times of delays.
use Rattle.std.specs.Prelude.{◌==◌, ℕ, Bool, false, ◌&&◌, List, Option, Some, None, slice_get}
use Rattle.std.specs.List.{filter, list_any}
use Rattle.flat_core.specs.declared.equation.Op.{Op}
use Rattle.flat_core.specs.declared.equation.Op.TheVariants as op
use Rattle.flat_core.specs.declared.equation.Equation.{Equation}
use Rattle.flat_core.specs.Instant.{is_delay}
use Rattle.flat_core.specs.System.{System, equation, runs, numbers}

-- the first argument of a last
abbrev pub kept_by : Op → List ℕ → Option ℕ
kept_by op.Last args = slice_get args 0
kept_by _ args = None

abbrev pub kept_at : Option Equation → Option ℕ
kept_at None = None
kept_at (Some e) = kept_by e.op e.args

abbrev pub is_number : Option ℕ → ℕ → Bool
is_number None i = false
is_number (Some a) i = a == i

-- equation j is a running last with the first argument i
abbrev pub keeps : System → ℕ → ℕ → Bool
keeps s j i = runs s j && is_number (kept_at (equation s j)) i

-- equation i is the first argument of a running last
abbrev pub is_kept : System → ℕ → Bool
is_kept s i = list_any (λ j. keeps s j i) (numbers s)

-- equation i is a running delay
abbrev pub is_timer : System → ℕ → Bool
is_timer s i = runs s i && is_delay (equation s i)

-- the first arguments of the running lasts, each once, and the running delays, by number
abbrev pub keeps_of : System → List ℕ
keeps_of s = filter (is_kept s) (numbers s)

abbrev pub timers_of : System → List ℕ
timers_of s = filter (is_timer s) (numbers s)
