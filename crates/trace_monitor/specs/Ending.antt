-- How a run stands at the closed times: a fault, too many instants, or neither.
use Rattle.std.specs.Prelude.{◌≡◌, ℕ, Bool, false, List, None}
use Rattle.lift_func.specs.declared.fault.FaultKind.{FaultKind}
use Rattle.flat_core.specs.Case.{Streams}
use Rattle.flat_core.specs.Ending.{EndsInFault, EndsAtLimit, EndsAtBound}
use Rattle.flat_core.specs.System.{System}
use Rattle.trace_monitor.specs.declared.options.Options.{Options}
use Rattle.trace_monitor.specs.Due.{lines_in, refused_in, bound_in, SolvesClosed}

-- there are streams that solve the system at the closed times, and whichever they are, this holds of them
pub record InAll (s : System) (o : Options) (bytes : List ℕ) (ended : Bool) (P : Streams → Type 0) : Type 0 where
  pub solved : (z : Streams) × SolvesClosed s o bytes ended z
  pub each : (z : Streams) → SolvesClosed s o bytes ended z → P z

module _ (s : System) (o : Options) (bytes : List ℕ) (ended : Bool) where
  -- no fault is closed, and the limit is not passed
  abbrev pub IsQuiet : Type 0
  IsQuiet = InAll s o bytes ended (λ z. EndsAtBound s (lines_in s o bytes ended) z (bound_in s o bytes ended) o.instants)

  -- the fault of equation i at t is closed within the limit, and it is the one that is named
  abbrev pub IsFaulted : ℕ → ℕ → FaultKind → Type 0
  IsFaulted t i kind =
      InAll s o bytes ended (λ z. EndsInFault s (lines_in s o bytes ended) z (bound_in s o bytes ended) o.instants t i kind)

  -- as many instants as may have run without a fault, and one more at t is closed
  abbrev pub IsLimited : ℕ → Type 0
  IsLimited t = InAll s o bytes ended (λ z. EndsAtLimit s (lines_in s o bytes ended) z (bound_in s o bytes ended) o.instants t)

-- a run goes on after these bytes: no line is refused, no fault is closed, and the limit is not passed
pub record GoesOn (s : System) (o : Options) (bytes : List ℕ) : Type 0 where
  pub accepted : refused_in s o bytes false ≡ None
  pub quiet : IsQuiet s o bytes false
