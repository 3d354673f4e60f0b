-- Lines are taken up to a halt, and then all instants at closed times run.
use Rattle.std.proofs.Common.{◌≡◌, ◌≢◌, ℕ, Bool, true, false, List, [], ◌++◌, Some, None, refl, sym, ap, subst, ◌∙◌, arith, append-nil, append_assoc}
use Rattle.flat_core.specs.Case.{Streams}
use Rattle.flat_core.specs.Ending.{EndsAtBound}
use Rattle.flat_core.specs.Line.{Line, inputs_of, last_time}
use Rattle.flat_core.specs.Solution.{Solves}
use Rattle.flat_core.specs.System.{System}
use Rattle.flat_core.specs.Text.{due_text}
use Rattle.monitor_run.specs.declared.monitor.Stop.{Stop}
use Rattle.monitor_run.specs.declared.monitor.Stop.TheVariants as stop
use Rattle.monitor_run.specs.inner.State as engine
use Rattle.monitor_run.specs.inner.Written.{HasWritten}
use Rattle.trace_reader.specs.Closed.{closed_below}
use Rattle.trace_reader.specs.inner.Reader.{Reader}
use Rattle.trace_reader.specs.Reading.{Reading}
use Rattle.trace_reader.specs.inner.Reads.{Reads}
use Rattle.trace_monitor.specs.declared.halt.Halt.{Halt}
use Rattle.trace_monitor.specs.declared.halt.Halt.TheVariants as halt
use Rattle.trace_monitor.specs.inner.Kept.{events_of}
use Rattle.trace_monitor.specs.inner.Reading.{Fed, HasReadAll, HasRunAll, HasStoppedIn, Halts, bound_at, reading_of}
use Rattle.trace_monitor.specs.inner.Run.{CountsSo, HasCountedTo, HasRunOut, HasStopped, StopsSo, closed_to}

pub halted_lines : (r : Reading) (ls : List Line) (ended : Bool) (by : Halt) → Halts r ls ended by → r.lines ≡ ls
halted_lines r ls ended halt.More h = ap (λ (r : Reading). r.lines) h.0
halted_lines r ls ended halt.End h = ap (λ (r : Reading). r.lines) h.0
halted_lines r ls ended (halt.Refused f) h = ap (λ (r : Reading). r.lines) h

-- which times are closed at a halt
pub halted_bound : (r : Reading) (ls : List Line) (ended : Bool) (until : ℕ) (by : Halt) → Halts r ls ended by → bound_at by (last_time ls) until ≡ closed_below r until ended
halted_bound r ls ended until halt.More h = sym (ap (λ (r : Reading). closed_below r until ended) h.0 ∙ ap (λ (e : Bool). closed_below (record { lines = ls; refused = None }) until e) h.1)
halted_bound r ls ended until halt.End h = sym (ap (λ (r : Reading). closed_below r until ended) h.0 ∙ ap (λ (e : Bool). closed_below (record { lines = ls; refused = None }) until e) h.1)
halted_bound r ls ended until (halt.Refused f) h =
    sym (ap (λ (r : Reading). closed_below r until ended) h ∙ elim ended as (λ (e : Bool). closed_below (record { lines = ls; refused = Some f }) until e ≡ last_time ls) [
      | true ↦ refl
      | false ↦ refl
    ])

module _ (r : Reader) (old mid new : engine.State) (last until : ℕ) (x : Fed) (lines : List Line) (text before at after : List ℕ) (by : Halt) (h : HasReadAll r old mid last x lines text before at by) where
  abbrev taken : List Line
  taken = lines ++ h.on.more

  abbrev written_text : List ℕ
  written_text = text ++ h.on.added

  bound_same : bound_at by last until ≡ bound_at by (last_time taken) until
  bound_same = ap (λ (n : ℕ). bound_at by n until) h.on.read.last_is

  same_text : (more : List ℕ) → written_text ++ more ≡ text ++ (h.on.added ++ more)
  same_text more = append_assoc text h.on.added more

  same_after : (more : List ℕ) → after ≡ at ++ more → after ≡ before ++ (h.on.added ++ more)
  same_after more is = is ∙ ap (λ (b : List ℕ). b ++ more) h.on.after_is ∙ append_assoc before h.on.added more

  abbrev EndsAll : System → ℕ → ℕ → List ℕ → Type 0
  EndsAll s b n t = (w : Streams) → Solves s (inputs_of (events_of taken)) b w → (t ≡ due_text s (events_of taken) w b n) × EndsAtBound s (events_of taken) w b n

  pub run_after : HasRunOut (closed_to mid (bound_at by last until)) new (events_of taken) written_text at after → HasRunAll r old new last until x lines text before after by
  run_after run = record {
    more = h.on.more;
    added = h.on.added ++ run.added;
    after_is = same_after run.added run.after_is;
    system_is = run.as_set.system ∙ h.on.system_is;
    limit_is = run.as_set.limit ∙ h.on.limit_is;
    reads = subst (λ (s : System). Reads r s x.strict x.limit x.bytes taken x.ended) h.on.system_is h.on.read.reads;
    last_is = h.on.read.last_is;
    halts = h.halts;
    bound_is = run.as_set.bound ∙ bound_same;
    written = subst (HasWritten new (events_of taken)) (same_text run.added) run.written;
    counts = subst (λ (b : ℕ). HasCountedTo new old.system (events_of taken) b b) (sym run.as_set.bound)
        (subst (λ (s : System). HasCountedTo new s (events_of taken) (bound_at by last until) (bound_at by last until)) h.on.system_is run.counts);
    ends = subst (λ (b : ℕ). EndsAll old.system b old.limit (text ++ (h.on.added ++ run.added))) (sym run.as_set.bound)
        (subst (λ (n : ℕ). EndsAll old.system (bound_at by last until) n (text ++ (h.on.added ++ run.added))) h.on.limit_is
        (subst (λ (s : System). EndsAll s (bound_at by last until) mid.limit (text ++ (h.on.added ++ run.added))) h.on.system_is
        (subst (EndsAll mid.system (bound_at by last until) mid.limit) (same_text run.added) run.ends)));
  }

  pub stopped_after : (why : Stop) → why ≢ stop.Memory → HasStopped (closed_to mid (bound_at by last until)) new (events_of taken) written_text at after why → HasStoppedIn old new x until text before after why
  stopped_after why some run =
      let bound : bound_at by last until ≡ closed_below (reading_of old.system x) until x.ended = bound_same ∙ halted_bound (reading_of old.system x) taken x.ended until by h.halts in
      record {
        taken = taken;
        more = [];
        lines_are = halted_lines (reading_of old.system x) taken x.ended by h.halts ∙ sym (append-nil taken);
        time = bound_at by last until;
        later = tt;
        closed = omega arith;
        added = h.on.added ++ run.added;
        after_is = same_after run.added (run.after_is some);
        stops = subst (λ (n : ℕ). StopsSo old.system (events_of taken) (bound_at by last until) n (text ++ (h.on.added ++ run.added)) why) h.on.limit_is
            (subst (λ (s : System). StopsSo s (events_of taken) (bound_at by last until) mid.limit (text ++ (h.on.added ++ run.added)) why) h.on.system_is
            (subst (λ (t : List ℕ). StopsSo mid.system (events_of taken) (bound_at by last until) mid.limit t why) (same_text run.added) run.stops));
        counts = subst (λ (s : System). CountsSo new s (events_of taken) (bound_at by last until) why) h.on.system_is run.counts;
      }
