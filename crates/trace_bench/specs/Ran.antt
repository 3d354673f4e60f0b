-- What a run over the sample trace has counted.
use Rattle.std.specs.Prelude.{◌≡◌, ℕ, ◌-◌, ◌^◌, Bool, true, List, [], ◌++◌, length, min}
use Rattle.std.specs.List.{sum_by}
use Rattle.flat_core.specs.System.{System}
use Rattle.flat_core.specs.Updates.{running_updates}
use Rattle.monitor_run.specs.inner.State as engine
use Rattle.sample_trace.specs.Trace.{trace_text}
use Rattle.trace_monitor.specs.Counted.{HasCounted}
use Rattle.trace_monitor.specs.declared.ending.RunEnding.{RunEnding}
use Rattle.trace_monitor.specs.declared.options.Options.{Options}
use Rattle.trace_monitor.specs.Due.{IsDue}
use Rattle.trace_monitor.specs.Next.{EndsBy}

-- counts stop at 2^64 - 1
abbrev pub up_to_most : ℕ → ℕ
up_to_most n = min n (2 ^ 64 - 1)

-- so much for each update that runs, together
abbrev pub updates_sum : System → (ℕ → ℕ) → ℕ
updates_sum s amount = sum_by amount (running_updates s)

-- The run ended so after a front of the trace with so many lines, all of it where its end was taken. So many bytes of text are due there,
-- and the engine has counted what it has run.
pub record HasRanOver (s : System) (o : Options) (e : engine.State) (count : ℕ) (how : RunEnding) (bytes : ℕ) : Type 0 where
  pub front : List ℕ
  pub rest : List ℕ
  pub is : trace_text count ≡ front ++ rest
  pub ended : Bool
  pub ended_is : ended ≡ true → rest ≡ []
  pub cause : EndsBy s o front ended how
  pub text : List ℕ
  pub due : IsDue s o front ended text
  pub bytes_are : bytes ≡ up_to_most (length text)
  pub system_is : e.system ≡ s
  pub counted : HasCounted s o front ended e how
