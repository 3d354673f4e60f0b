-- What is due after a piece of the trace, and how the run stands there.
use Rattle.std.proofs.Common.{◌≡◌, ℕ, ◌≤◌, Bool, List, ◌++◌, sym, subst}
use Rattle.lift_func.specs.declared.fault.FaultKind.{FaultKind}
use Rattle.flat_core.specs.inner.BoundLaws.{AreFrom}
use Rattle.flat_core.specs.Case.{Streams}
use Rattle.flat_core.specs.Complete.{IsFlat}
use Rattle.flat_core.specs.Ending.{EndsInFault, EndsAtLimit, EndsAtBound}
use Rattle.flat_core.specs.Line.{Line, inputs_of, last_time}
use Rattle.flat_core.specs.Solution.{Solves}
use Rattle.flat_core.specs.System.{System}
use Rattle.flat_core.specs.Text.{due_text}
use Rattle.monitor_run.specs.declared.monitor.Stop.TheVariants as stop
use Rattle.register_code.specs.inner.Plan.{IsPlanOrder}
use Rattle.trace_reader.specs.Reading.{reading}
use Rattle.trace_monitor.specs.declared.halt.Halt.{Halt}
use Rattle.trace_monitor.specs.declared.options.Options.{Options}
use Rattle.trace_monitor.specs.Due.{IsDue, SolvesClosed, bound_in, lines_in}
use Rattle.trace_monitor.specs.Ending.{InAll, IsFaulted, IsLimited, IsQuiet}
use Rattle.trace_monitor.specs.inner.Kept.{events_of}
use Rattle.trace_monitor.specs.inner.Reading.{Halts, bound_at}
use Rattle.trace_monitor.specs.inner.Run.{StopsSo}
use Rattle.trace_monitor.proofs.Ends.{bound_stays, fault_stays, limit_stays}
use Rattle.trace_monitor.proofs.Readiness.{plan_solution}
use Rattle.trace_monitor.proofs.RunOut.{halted_bound, halted_lines}

module _ (s : System) (o : Options) (order : List ℕ) (flat : IsFlat s) (plan : IsPlanOrder s order) (bytes : List ℕ) (ended : Bool) where
  -- what holds of each solution at the closed times
  abbrev Each : (List Line → ℕ → Streams → Type 0) → Type 0
  Each P = (z : Streams) → SolvesClosed s o bytes ended z → P (lines_in s o bytes ended) (bound_in s o bytes ended) z

  solved : (z : Streams) × SolvesClosed s o bytes ended z
  solved = plan_solution s order flat plan (inputs_of (lines_in s o bytes ended)) (bound_in s o bytes ended)

  due_in : (text : List ℕ) (P : List Line → ℕ → Streams → Type 0) → Each (λ ls b z. (text ≡ due_text s ls z b o.instants) × P ls b z) → IsDue s o bytes ended text
  due_in text P each = record { solved = solved; is = λ z zs. (each z zs).0 }

  ends_in : (text : List ℕ) (P : List Line → ℕ → Streams → Type 0) → Each (λ ls b z. (text ≡ due_text s ls z b o.instants) × P ls b z) → InAll s o bytes ended (P (lines_in s o bytes ended) (bound_in s o bytes ended))
  ends_in text P each = record { solved = solved; each = λ z zs. (each z zs).1 }

  abbrev Is : List ℕ → (List Line → ℕ → Streams → Type 0) → List Line → ℕ → Type 0
  Is text P ls b = (z : Streams) → Solves s (inputs_of ls) b z → (text ≡ due_text s ls z b o.instants) × P ls b z

  -- all instants at closed times have run
  module _ (ls : List Line) (by : Halt) (halts : Halts (reading s o.strict o.bytes bytes ended) ls ended by) (text : List ℕ)
      (ends : (w : Streams) → Solves s (inputs_of (events_of ls)) (bound_at by (last_time ls) o.until) w
      → (text ≡ due_text s (events_of ls) w (bound_at by (last_time ls) o.until) o.instants) × EndsAtBound s (events_of ls) w (bound_at by (last_time ls) o.until) o.instants) where
    abbrev AtBound : List Line → ℕ → Streams → Type 0
    AtBound ls b z = EndsAtBound s ls z b o.instants

    all : Is text AtBound (lines_in s o bytes ended) (bound_in s o bytes ended)
    all =
        let r = reading s o.strict o.bytes bytes ended in
        subst (λ (l : List Line). Is text AtBound l (bound_in s o bytes ended)) (sym (halted_lines r ls ended by halts))
        (subst (Is text AtBound ls) (halted_bound r ls ended o.until by halts)
        (λ z zs. bound_stays s flat.proper flat.outputs_run ls (bound_at by (last_time ls) o.until) o.instants text z zs ends))

    pub due_at_halt : IsDue s o bytes ended text
    due_at_halt = due_in text AtBound all

    pub quiet_at_halt : IsQuiet s o bytes ended
    quiet_at_halt = ends_in text AtBound all

  -- the engine stopped
  module _ (taken more : List Line) (lines_are : lines_in s o bytes ended ≡ taken ++ more) (time : ℕ) (later : AreFrom time more) (closed : time ≤ bound_in s o bytes ended) (text : List ℕ) where
    stopped : (P : List Line → ℕ → Streams → Type 0) → Is text P (taken ++ more) (bound_in s o bytes ended) → Is text P (lines_in s o bytes ended) (bound_in s o bytes ended)
    stopped P all = subst (λ (l : List Line). Is text P l (bound_in s o bytes ended)) (sym lines_are) all

    module _ (t i : ℕ) (kind : FaultKind) (stops : StopsSo s (events_of taken) time o.instants text (stop.Fault t i kind)) where
      abbrev AtFault : List Line → ℕ → Streams → Type 0
      AtFault ls b z = EndsInFault s ls z b o.instants t i kind

      at_fault : Is text AtFault (lines_in s o bytes ended) (bound_in s o bytes ended)
      at_fault = stopped AtFault (λ z zs. fault_stays s flat.proper flat.outputs_run taken more time (bound_in s o bytes ended) o.instants closed later text z zs t i kind stops)

      pub due_at_fault : IsDue s o bytes ended text
      due_at_fault = due_in text AtFault at_fault

      pub faulted : IsFaulted s o bytes ended t i kind
      faulted = ends_in text AtFault at_fault

    module _ (count t : ℕ) (stops : StopsSo s (events_of taken) time o.instants text (stop.Limit count t)) where
      abbrev AtLimit : List Line → ℕ → Streams → Type 0
      AtLimit ls b z = EndsAtLimit s ls z b o.instants t

      at_limit : Is text AtLimit (lines_in s o bytes ended) (bound_in s o bytes ended)
      at_limit = stopped AtLimit (λ z zs. limit_stays s flat.proper flat.outputs_run taken more time (bound_in s o bytes ended) o.instants closed later text z zs t stops.1)

      pub due_at_limit : IsDue s o bytes ended text
      due_at_limit = due_in text AtLimit at_limit

      pub limited : (count ≡ o.instants) × IsLimited s o bytes ended t
      limited = (stops.0, ends_in text AtLimit at_limit)
