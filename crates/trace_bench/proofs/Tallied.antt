-- What a run that went over the whole trace has counted.
use Rattle.std.proofs.Common.{◌≡◌, ℕ, Bool, true, List, ◌++◌, refl, sym, ap, subst, ◌∙◌, append-nil}
use Rattle.std.specs.Prelude.{IsTrue, slice_index}
use Rattle.flat_core.specs.Case.{Streams}
use Rattle.flat_core.specs.System.{System, numbers}
use Rattle.monitor_run.specs.inner.State as engine
use Rattle.flat_core.specs.Updates.{is_running_update}
use Rattle.register_machine.specs.Copied.{copied}
use Rattle.sample_trace.specs.Trace.{trace_text}
use Rattle.trace_bench.specs.Measured.{IsTallied, options}
use Rattle.trace_bench.specs.Ran.{HasRanOver, up_to_most, updates_sum}
use Rattle.trace_bench.proofs.Sums.{sums_same}
use Rattle.trace_monitor.specs.Counted.{HasCounted}
use Rattle.trace_monitor.specs.declared.ending.RunEnding.TheVariants as ending
use Rattle.trace_monitor.specs.Due.{IsDue, SolvesClosed, bound_in}
use Rattle.trace_monitor.specs.Next.{EndsBy}

module _ (s : System) (set : List ℕ) (count : ℕ) (e : engine.State) (set_is : e.in_place ≡ set) (bytes : ℕ) (ran : HasRanOver s options e count ending.Done bytes) where
  is_end : ran.ended ≡ true
  is_end = ran.cause.0

  whole : ran.front ≡ trace_text count
  whole = sym (append-nil ran.front) ∙ sym (ap (λ (l : List ℕ). ran.front ++ l) (ran.ended_is is_end)) ∙ sym ran.is

  over_all : (P : List ℕ → Bool → Type 0) → P ran.front ran.ended → P (trace_text count) true
  over_all P at = subst (λ (l : List ℕ). P l true) whole (subst (λ (b : Bool). P ran.front b) is_end at)

  counted : HasCounted s options (trace_text count) true e ending.Done
  counted = over_all (λ l b. HasCounted s options l b e ending.Done) ran.counted

  counted_of : (z : Streams) → SolvesClosed s options (trace_text count) true z → (u : ℕ) → IsTrue (is_running_update s u)
      → slice_index e.ledger u ≡ copied s set z u (bound_in s options (trace_text count) true)
  counted_of z zs u runs = counted.ledger z zs u runs ∙ ap (λ (l : List ℕ). copied s l z u (bound_in s options (trace_text count) true)) set_is

  pub tallied : (instants copies : ℕ) → instants ≡ e.ran → copies ≡ up_to_most (updates_sum s (λ u. slice_index e.ledger u))
      → IsTallied s set count record { events = count; instants = instants; bytes = bytes; copied = copies }
  tallied instants copies instants_are copies_are = record {
    cause = over_all (λ l b. EndsBy s options l b ending.Done) ran.cause;
    events_are = refl;
    instants_are = λ z zs. instants_are ∙ counted.ran z zs;
    text = ran.text;
    due = over_all (λ l b. IsDue s options l b ran.text) ran.due;
    bytes_are = ran.bytes_are;
    copied_are = λ z zs. copies_are
        ∙ ap up_to_most (sums_same (is_running_update s) (λ u. slice_index e.ledger u) (λ u. copied s set z u (bound_in s options (trace_text count) true)) (counted_of z zs) (numbers s));
  }
