-- The text that is due as more of the trace comes.
use Rattle.std.proofs.Common.{◌≡◌, ◌++◌, ◌<◌, ◌≤◌, Bool, false, List, [], ℕ, refl, sym, ◌∙◌, ap, subst, arith, take, length, Some, slice_get}
use Rattle.std.specs.List.{Contains}
use Rattle.std.proofs.Math.Seq.{take-nil}
use Rattle.std.proofs.lemmas.Option.{slice_get_within}
use Rattle.flat_core.specs.Ending.{EndsAtBound}
use Rattle.flat_core.specs.Instant.{instants}
use Rattle.flat_core.specs.inner.BoundLaws.{AreFrom}
use Rattle.flat_core.specs.Case.{Streams}
use Rattle.flat_core.specs.Line.{Line, inputs_of}
use Rattle.flat_core.specs.Solution.{Solves}
use Rattle.flat_core.specs.System.{System}
use Rattle.flat_core.specs.Text.{due_text}
use Rattle.flat_core.proofs.LaterLines.{leaves_earlier}
use Rattle.flat_core.proofs.SameMeaning.{happens_alike, outputs_agree}
use Rattle.flat_core.proofs.SmallerBound.{solves_less}
use Rattle.trace_reader.specs.Reading.{Reading}
use Rattle.trace_reader.proofs.LawLemmas.{reading_begins}
use Rattle.trace_reader.proofs.LineLemmas.{reading_later, reading_closed}
use Rattle.trace_monitor.specs.declared.options.Options.{Options}
use Rattle.trace_monitor.specs.Due.{IsDue, SolvesClosed, lines_in, bound_in}
use Rattle.trace_monitor.specs.Ending.{GoesOn}
use Rattle.compiled_meaning.specs.inner.Ready.{IsReady}
use Rattle.trace_monitor.proofs.DueTexts.{due_alike, due_grows}
use Rattle.trace_monitor.proofs.Readiness.{none_read, none_closed, none_due}

-- there is no instant below 0
module _ (s : System) (lines : List Line) (z : Streams) (bound limit : ℕ) (zero_is : bound ≡ 0) where
  none_first : take limit (instants s lines z bound) ≡ []
  none_first = ap (λ (n : ℕ). take limit (instants s lines z n)) zero_is ∙ take-nil limit

  none_ends : EndsAtBound s lines z bound limit
  none_ends = record {
    no_fault = λ t i kind ends. none_in t (subst (λ (l : List ℕ). Contains l t) none_first ends.within);
    no_limit = λ t ends. none_at limit t (subst (λ (n : ℕ). slice_get (instants s lines z n) limit ≡ Some t) zero_is ends.next);
  }
    where
      none_in : (t : ℕ) → Contains {X = ℕ} [] t → ⊥
      none_in t (k, lt, is) = absurd (omega arith)

      none_at : (n t : ℕ) → slice_get {X = ℕ} [] n ≡ Some t → ⊥
      none_at n t h = let lt : n < length {A = ℕ} [] = slice_get_within [] n t h in absurd (omega arith)

-- the text that more of the trace, or its end, adds to what is due
pub record Adds (s : System) (o : Options) (bytes : List ℕ) (ended : Bool) (text : List ℕ) : Type 0 where
  pub more : List ℕ
  pub due : IsDue s o bytes ended (text ++ more)

module _ (s : System) (o : Options) (ready : IsReady s) where
  -- two solutions at the closed times have the same text due
  one_text : (bytes : List ℕ) (ended : Bool) (z w : Streams) → SolvesClosed s o bytes ended z → SolvesClosed s o bytes ended w
      → due_text s (lines_in s o bytes ended) z (bound_in s o bytes ended) o.instants ≡ due_text s (lines_in s o bytes ended) w (bound_in s o bytes ended) o.instants
  one_text bytes ended z w zs ws =
      let lines = lines_in s o bytes ended in
      let bound = bound_in s o bytes ended in
      let same = ready.agree (inputs_of lines) bound z w zs ws in
      due_alike s bound o.instants lines lines z w (happens_alike s bound z w ready.proper same lines) (outputs_agree s bound z w ready.proper same ready.outputs_run)

  -- the text of a solution is due
  pub due_of : (bytes : List ℕ) (ended : Bool) (z : Streams) → SolvesClosed s o bytes ended z → IsDue s o bytes ended (due_text s (lines_in s o bytes ended) z (bound_in s o bytes ended) o.instants)
  due_of bytes ended z zs = record { solved = (z, zs); is = λ w ws. one_text bytes ended z w zs ws }

  -- what is due begins what is due of more of the trace
  pub due_more : (bytes more text : List ℕ) (ended : Bool) → IsDue s o bytes false text → Adds s o (bytes ++ more) ended text
  due_more bytes more text ended due =
      let low = bound_in s o bytes false in
      let high = bound_in s o (bytes ++ more) ended in
      let le : low ≤ high = reading_closed s o.strict o.bytes o.until bytes more ended in
      let ls = lines_in s o bytes false in
      let ms = lines_in s o (bytes ++ more) ended in
      let stay = reading_begins s o.strict o.bytes bytes more ended in
      let (z, zs) = ready.exists (inputs_of ms) high in
      let later : AreFrom low stay.rest = reading_later s o.strict o.bytes bytes more ended stay.rest stay.is in
      let earlier = leaves_earlier s low ls stay.rest later in
      let zlow : Solves s (inputs_of (ls ++ stay.rest)) low z = subst (λ (l : List Line). Solves s (inputs_of l) low z) stay.is (solves_less s (inputs_of ms) low high z le zs) in
      let first : Solves s (inputs_of ls) low z = (earlier.solves_same z).1 zlow in
      let grows = due_grows s ms z low high o.instants le in
      let agrees = outputs_agree s low z z ready.proper (λ i run t lt. refl) ready.outputs_run in
      let same : due_text s ls z low o.instants ≡ due_text s ms z low o.instants =
      due_alike s low o.instants ls (ls ++ stay.rest) z z (earlier.happens z) agrees ∙ ap (λ (l : List Line). due_text s l z low o.instants) (sym stay.is) in
      record {
        more = grows.0;
        due = subst (λ (l : List ℕ). IsDue s o (bytes ++ more) ended l) (grows.1 ∙ ap (λ (l : List ℕ). l ++ grows.0) (sym (due.is z first ∙ same))) (due_of (bytes ++ more) ended z zs);
      }

  -- before anything is read
  pub due_at_start : IsDue s o [] false []
  due_at_start = record {
    solved = ready.exists (inputs_of (lines_in s o [] false)) (bound_in s o [] false);
    is = λ z zs. sym (none_due s (lines_in s o [] false) z (bound_in s o [] false) o.instants (none_closed s o.strict o.bytes o.until));
  }

  pub goes_on_at_start : GoesOn s o []
  goes_on_at_start = record {
    accepted = ap (λ (r : Reading). r.refused) (none_read s o.strict o.bytes);
    quiet = record {
      solved = ready.exists (inputs_of (lines_in s o [] false)) (bound_in s o [] false);
      each = λ z zs. none_ends s (lines_in s o [] false) z (bound_in s o [] false) o.instants (none_closed s o.strict o.bytes o.until);
    };
  }
