-- How many elements updates copy where those of a set happen in place.
use Rattle.std.specs.Prelude.{ℕ, zero, suc, ◌+◌, ◌-◌, ◌^◌, min, List, [], ◌∷◌, Option, Some, None, if◌then◌else◌}
use Rattle.tsl_value.specs.View.{View}
use Rattle.tsl_value.specs.Aggregate.{size_of}
use Rattle.flat_core.specs.declared.equation.Equation.{Equation}
use Rattle.flat_core.specs.Case.{Streams}
use Rattle.flat_core.specs.Members.{is_in}
use Rattle.flat_core.specs.Stream.{event, has_event}
use Rattle.flat_core.specs.System.{System, equation}

-- the size of a value that is there
abbrev pub size_at : Option View → ℕ
size_at None = 0
size_at (Some v) = size_of v

-- the size of the source of update u at a time at which the update has an event; the source is the first argument
abbrev pub copied_at : Streams → ℕ → List ℕ → ℕ → ℕ
copied_at z u [] t = 0
copied_at z u (m ∷ args) t = if has_event (z u t) then size_at (event (z m t)) else 0

abbrev pub args_of : Option Equation → List ℕ
args_of None = []
args_of (Some e) = e.args

-- the sum over all times below the bound
abbrev pub total_copied : System → Streams → ℕ → ℕ → ℕ
total_copied s z u zero = 0
total_copied s z u (suc t) = total_copied s z u t + copied_at z u (args_of (equation s u)) t

-- 0 for an update of the set, which copies nothing, and else that sum; numbers stop at 2^64 - 1
abbrev pub copied : System → List ℕ → Streams → ℕ → ℕ → ℕ
copied s set z u bound = if is_in set u then 0 else min (total_copied s z u bound) (2 ^ 64 - 1)
