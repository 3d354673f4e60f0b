-- How a question why an output has an event at a time stands after some bytes of a trace. What counts are the closed times up to the one
-- that is asked for: no later fault or instant does, nor a line that is refused once that time is closed.
use Rattle.std.specs.Prelude.{◌≡◌, ◌⊎◌, ℕ, suc, ◌<◌, ◌≤◌, min, Bool, false, true, List, None, Some, slice_get}
use Rattle.std.specs.List.{Contains}
use Rattle.lift_func.specs.declared.fault.FaultKind.{FaultKind}
use Rattle.flat_core.specs.Case.{Streams}
use Rattle.flat_core.specs.declared.equation.Output.{Output}
use Rattle.flat_core.specs.Ending.{EndsInFault, EndsAtLimit, EndsAtBound}
use Rattle.flat_core.specs.Line.{inputs_of}
use Rattle.flat_core.specs.Solution.{Solves}
use Rattle.flat_core.specs.Stream.{event}
use Rattle.flat_core.specs.System.{System}
use Rattle.flat_core.specs.Text.{due_instants}
use Rattle.tsl_value.specs.View.{View}
use Rattle.trace_monitor.specs.declared.options.Options.{Options}
use Rattle.trace_monitor.specs.Due.{bound_in, lines_in, refused_in}
use Rattle.trace_why.specs.declared.question.Question.{Question}

module _ (s : System) (o : Options) (q : Question) (bytes : List ℕ) (ended : Bool) where
  -- the times that count are below this
  abbrev pub counted_below : ℕ
  counted_below = min (bound_in s o bytes ended) (suc q.time)

  -- there are streams that solve the system at the times that count, and whichever they are, this holds of them
  pub record InAllFor (P : Streams → Type 0) : Type 0 where
    pub solved : (z : Streams) × Solves s (inputs_of (lines_in s o bytes ended)) counted_below z
    pub each : (z : Streams) → Solves s (inputs_of (lines_in s o bytes ended)) counted_below z → P z

  -- there is no fault, and the limit is not passed
  abbrev pub IsQuietFor : Type 0
  IsQuietFor = InAllFor (λ z. EndsAtBound s (lines_in s o bytes ended) z counted_below o.instants)

  -- there is a fault of equation i at t within the limit, and it is the one that is named
  abbrev pub IsFaultedFor : ℕ → ℕ → FaultKind → Type 0
  IsFaultedFor t i kind = InAllFor (λ z. EndsInFault s (lines_in s o bytes ended) z counted_below o.instants t i kind)

  -- as many instants as may run without a fault, and there is one more at t
  abbrev pub IsLimitedFor : ℕ → Type 0
  IsLimitedFor t = InAllFor (λ z. EndsAtLimit s (lines_in s o bytes ended) z counted_below o.instants t)

  -- the output has this event at the time, and it is due
  pub record HasDueEvent (z : Streams) (v : View) : Type 0 where
    pub output : Output
    pub is_output : slice_get s.outputs q.output ≡ Some output
    pub happens : event (z output.equation q.time) ≡ Some v
    pub due : Contains (due_instants s (lines_in s o bytes ended) z counted_below o.instants) q.time

  -- the time is open yet, nothing is refused, and there is no fault and no instant too many: the trace may be read further
  pub record IsAwaited : Type 0 where
    pub unended : ended ≡ false
    pub accepted : refused_in s o bytes ended ≡ None
    pub still_open : bound_in s o bytes ended ≤ q.time
    pub quiet : IsQuietFor

  -- all is read that is asked for: the time is closed, or the trace has ended
  abbrev pub IsAllRead : Type 0
  IsAllRead = (q.time < bound_in s o bytes ended) ⊎ ((ended ≡ true) × (refused_in s o bytes ended ≡ None))
