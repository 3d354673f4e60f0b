-- A question before anything of the trace is read: the trace may be read.
use Rattle.std.proofs.Common.{◌≡◌, ℕ, ◌<◌, false, List, [], take, refl, ap, arith}
use Rattle.compiled_meaning.specs.inner.Ready.{IsReady}
use Rattle.flat_core.specs.Case.{Streams}
use Rattle.flat_core.specs.Ending.{EndsAtBound}
use Rattle.flat_core.specs.Instant.{instants}
use Rattle.flat_core.specs.Line.{Line, inputs_of}
use Rattle.flat_core.specs.System.{System}
use Rattle.flat_core.proofs.Instants.{instants_below}
use Rattle.flat_core.proofs.Members.{all_at}
use Rattle.trace_monitor.specs.declared.options.Options.{Options}
use Rattle.trace_monitor.specs.Due.{bound_in, lines_in}
use Rattle.trace_monitor.proofs.Readiness.{none_closed, none_read}
use Rattle.trace_reader.specs.Reading.{Reading}
use Rattle.trace_why.specs.declared.question.Question.{Question}
use Rattle.trace_why.specs.Ending.{IsAwaited, counted_below}
use Rattle.tsl_value.proofs.Lists.{all_take, contains_at}

-- where no time counts, there is no fault and no instant
none_ends : (s : System) (lines : List Line) (z : Streams) (bound limit : ℕ) → bound ≡ 0 → EndsAtBound s lines z bound limit
none_ends s lines z bound limit zero_is = record {
  no_fault = λ t i kind ends. never t (all_at (λ u. u < bound) (take limit (instants s lines z bound)) (all_take (λ u. u < bound) limit (instants s lines z bound) (instants_below s lines z bound)) t ends.within);
  no_limit = λ t ends. never t (all_at (λ u. u < bound) (instants s lines z bound) (instants_below s lines z bound) t (contains_at (instants s lines z bound) limit t ends.next));
}
  where
    never : (t : ℕ) → t < bound → ⊥
    never t lt = absurd (omega arith)

module _ (s : System) (o : Options) (q : Question) (ready : IsReady s) where
  none_counts : counted_below s o q [] false ≡ 0
  none_counts = let closed : bound_in s o [] false ≡ 0 = none_closed s o.strict o.bytes o.until in omega arith

  pub awaited_at_start : IsAwaited s o q [] false
  awaited_at_start = record {
    unended = refl;
    accepted = ap (λ (r : Reading). r.refused) (none_read s o.strict o.bytes);
    still_open = let closed : bound_in s o [] false ≡ 0 = none_closed s o.strict o.bytes o.until in omega arith;
    quiet = record {
      solved = ready.exists (inputs_of (lines_in s o [] false)) (counted_below s o q [] false);
      each = λ z zs. none_ends s (lines_in s o [] false) z (counted_below s o q [] false) o.instants none_counts;
    };
  }
