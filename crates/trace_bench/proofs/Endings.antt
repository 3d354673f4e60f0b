-- How a run over the sample trace ends, by streams over the whole trace.
use Rattle.std.proofs.Common.{◌≡◌, ℕ, ◌+◌, ◌≤◌, Bool, true, false, List, [], ◌++◌, None, Some, take, refl, sym, ap, subst, ◌∙◌, append-nil}
use Rattle.std.proofs.lemmas.Bool.{true≢false, false≢true}
use Rattle.std.specs.Prelude.{◌≢◌, if◌then◌else◌, is_none, max, IsFalse}
use Rattle.flat_core.specs.inner.BoundLaws.{LeavesEarlier}
use Rattle.flat_core.specs.Case.{Streams}
use Rattle.flat_core.specs.Ending.{EndsInFault, EndsAtLimit, EndsAtBound}
use Rattle.flat_core.specs.Fault.{is_faulty}
use Rattle.flat_core.specs.Instant.{instants}
use Rattle.flat_core.specs.Line.{Line, inputs_of, last_time}
use Rattle.flat_core.specs.Solution.{Solves}
use Rattle.flat_core.specs.System.{System}
use Rattle.flat_core.proofs.Alike.{named_faulty}
use Rattle.flat_core.proofs.LaterLines.{leaves_earlier}
use Rattle.flat_core.proofs.Members.{all_at}
use Rattle.flat_core.proofs.SmallerBound.{solves_less}
use Rattle.lift_func.specs.declared.fault.FaultKind.{FaultKind}
use Rattle.trace_bench.specs.declared.outcome.Outcome.{Outcome}
use Rattle.trace_bench.specs.declared.outcome.Outcome.TheVariants as outcome
use Rattle.trace_bench.specs.inner.Laws.{AreOfOneKind, EndsAlike, OneEnding}
use Rattle.trace_bench.specs.Measured.{IsStopped, IsTallied, options}
use Rattle.trace_bench.specs.declared.tally.Tally.{Tally}
use Rattle.trace_bench.specs.Outcome.{IsOutcomeOf}
use Rattle.trace_bench.proofs.Compiling.{one_system, solution}
use Rattle.sample_trace.specs.Trace.{trace_text}
use Rattle.trace_monitor.specs.declared.ending.RunEnding.{RunEnding}
use Rattle.trace_monitor.specs.declared.ending.RunEnding.TheVariants as ending
use Rattle.trace_monitor.specs.declared.options.Options.{Options}
use Rattle.trace_monitor.specs.Due.{SolvesClosed, bound_in, lines_in, refused_in}
use Rattle.trace_monitor.specs.Next.{EndsBy, IsPlaceOf}
use Rattle.trace_monitor.proofs.Ends.{fault_alike, fault_grows, limit_alike, limit_grows}
use Rattle.trace_reader.specs.Closed.{closed_below}
use Rattle.trace_reader.specs.declared.fault.TraceFault.{TraceFault}
use Rattle.trace_reader.specs.Reading.{Reading, reading}
use Rattle.trace_reader.proofs.LawLemmas.{reading_begins, reading_refused}
use Rattle.trace_reader.proofs.LineLemmas.{reading_closed, reading_later}
use Rattle.tsl_value.specs.declared.place.Place.{Place}

-- ---- what streams say of an ending
-- these streams over these bytes have the cause of the ending
abbrev pub Says : System → Options → List ℕ → Streams → RunEnding → Type 0
Says s o bytes z ending.Done = (refused_in s o bytes true ≡ None) × EndsAtBound s (lines_in s o bytes true) z (bound_in s o bytes true) o.instants
Says s o bytes z (ending.Trace fault) = (refused_in s o bytes true ≡ Some fault) × EndsAtBound s (lines_in s o bytes true) z (bound_in s o bytes true) o.instants
Says s o bytes z (ending.Fault time kind place) =
    (i : ℕ) × IsPlaceOf s i place × EndsInFault s (lines_in s o bytes true) z (bound_in s o bytes true) o.instants time i kind
Says s o bytes z (ending.Limit count time) = (count ≡ o.instants) × EndsAtLimit s (lines_in s o bytes true) z (bound_in s o bytes true) o.instants time

-- ---- at the end of the trace
module _ (s : System) (o : Options) (bytes : List ℕ) (z : Streams) (zs : SolvesClosed s o bytes true z) where
  said_at_end : (how : RunEnding) → EndsBy s o bytes true how → Says s o bytes z how
  said_at_end ending.Done cause = (cause.1, cause.2.each z zs)
  said_at_end (ending.Trace fault) cause = (cause.0, cause.1.each z zs)
  said_at_end (ending.Fault time kind place) cause = (cause.0, cause.1, cause.2.each z zs)
  said_at_end (ending.Limit count time) cause = (cause.0, cause.1.each z zs)

-- ---- after a front of the trace
closed_refused : (r : Reading) (fault : TraceFault) (until : ℕ) → r.refused ≡ Some fault → closed_below r until true ≡ closed_below r until false
closed_refused r fault until is = λ k. if is_none (is k) then max (last_time r.lines) until + 1 else last_time r.lines

module _ (s : System) (o : Options) (front more : List ℕ) (z : Streams) (zs : SolvesClosed s o (front ++ more) true z) where
  abbrev first : Reading
  first = reading s o.strict o.bytes front false

  abbrev whole : Reading
  whole = reading s o.strict o.bytes (front ++ more) true

  abbrev low : ℕ
  low = closed_below first o.until false

  abbrev high : ℕ
  high = closed_below whole o.until true

  said_refused : (fault : TraceFault) → EndsBy s o front false (ending.Trace fault) → Says s o (front ++ more) z (ending.Trace fault)
  said_refused fault cause =
      let same : whole ≡ first = reading_refused s o.strict o.bytes front more true fault cause.0 in
      let bound : high ≡ low = ap (λ (r : Reading). closed_below r o.until true) same ∙ closed_refused first fault o.until cause.0 in
      let solves : Solves s (inputs_of first.lines) low z =
      subst (λ (n : ℕ). Solves s (inputs_of first.lines) n z) bound (subst (λ (r : Reading). Solves s (inputs_of r.lines) high z) same zs) in
      let ends : EndsAtBound s first.lines z low o.instants = cause.1.each z solves in (
        ap (λ (r : Reading). r.refused) same ∙ cause.0,
        subst (λ (r : Reading). EndsAtBound s r.lines z high o.instants) (sym same) (subst (λ (n : ℕ). EndsAtBound s first.lines z n o.instants) (sym bound) ends),
      )

  abbrev rest : List Line
  rest = (reading_begins s o.strict o.bytes front more true).rest

  lines_are : whole.lines ≡ first.lines ++ rest
  lines_are = (reading_begins s o.strict o.bytes front more true).is

  le : low ≤ high
  le = reading_closed s o.strict o.bytes o.until front more true

  left : LeavesEarlier s low first.lines rest
  left = leaves_earlier s low first.lines rest (reading_later s o.strict o.bytes front more true rest lines_are)

  solved : Solves s (inputs_of first.lines) low z
  solved = (left.solves_same z).1 (solves_less s (inputs_of (first.lines ++ rest)) low high z le (subst (λ (l : List Line). Solves s (inputs_of l) high z) lines_are zs))

  said_fault : (time : ℕ) (kind : FaultKind) (place : Place) → EndsBy s o front false (ending.Fault time kind place) → Says s o (front ++ more) z (ending.Fault time kind place)
  said_fault time kind place cause =
      let i = cause.0 in
      let ends = fault_alike s low o.instants first.lines (first.lines ++ rest) z z (left.happens z) time i kind (cause.2.each z solved) in
      let grown = fault_grows s (first.lines ++ rest) z low high o.instants le time i kind ends in
      (i, cause.1, subst (λ (l : List Line). EndsInFault s l z high o.instants time i kind) (sym lines_are) grown.0)

  said_limit : (count time : ℕ) → EndsBy s o front false (ending.Limit count time) → Says s o (front ++ more) z (ending.Limit count time)
  said_limit count time cause =
      let ends = limit_alike s low o.instants first.lines (first.lines ++ rest) z z (left.happens z) time (cause.1.each z solved) in
      let grown = limit_grows s (first.lines ++ rest) z low high o.instants le time ends in
      (cause.0, subst (λ (l : List Line). EndsAtLimit s l z high o.instants time) (sym lines_are) grown.0)

  said_after : (how : RunEnding) → EndsBy s o front false how → Says s o (front ++ more) z how
  said_after ending.Done cause = absurd (false≢true cause.0)
  said_after (ending.Trace fault) cause = said_refused fault cause
  said_after (ending.Fault time kind place) cause = said_fault time kind place cause
  said_after (ending.Limit count time) cause = said_limit count time cause

-- ---- either
module _ (s : System) (o : Options) (bytes front rest : List ℕ) (is : bytes ≡ front ++ rest) (z : Streams) (zs : SolvesClosed s o bytes true z) (how : RunEnding) where
  pub said : (ended : Bool) → (ended ≡ true → rest ≡ []) → EndsBy s o front ended how → Says s o bytes z how
  said true none cause =
      let same : front ≡ bytes = sym (append-nil front) ∙ ap (λ (l : List ℕ). front ++ l) (sym (none refl)) ∙ sym is in
      said_at_end s o bytes z zs how (subst (λ (l : List ℕ). EndsBy s o l true how) same cause)
  said false none cause = subst (λ (l : List ℕ). Says s o l z how) (sym is) (said_after s o front rest z (subst (λ (l : List ℕ). SolvesClosed s o l true z) is zs) how cause)

-- ---- they exclude each other
module _ (s : System) (o : Options) (bytes : List ℕ) (z : Streams) where
  none_some : (fault : TraceFault) → refused_in s o bytes true ≡ None → refused_in s o bytes true ≡ Some fault → ⊥
  none_some fault none some = true≢false (ap is_none (sym none ∙ some))

  fault_limit : (time i : ℕ) (kind : FaultKind) (next : ℕ) → EndsInFault s (lines_in s o bytes true) z (bound_in s o bytes true) o.instants time i kind
      → EndsAtLimit s (lines_in s o bytes true) z (bound_in s o bytes true) o.instants next → ⊥
  fault_limit time i kind next fault limit =
      let lines = lines_in s o bytes true in
      let sound : IsFalse (is_faulty s (inputs_of lines) z time) = all_at (λ u. IsFalse (is_faulty s (inputs_of lines) z u)) (take o.instants (instants s lines z (bound_in s o bytes true))) limit.sound time fault.within in
      true≢false (sym (named_faulty s (inputs_of lines) z time i kind fault.named) ∙ sound)

  pub one_kind : (how other : RunEnding) → Says s o bytes z how → Says s o bytes z other → AreOfOneKind how other
  one_kind ending.Done ending.Done a b = tt
  one_kind ending.Done (ending.Trace fault) a b = none_some fault a.0 b.0
  one_kind ending.Done (ending.Fault time kind place) a b = a.1.no_fault time b.0 kind b.2
  one_kind ending.Done (ending.Limit count time) a b = a.1.no_limit time b.1
  one_kind (ending.Trace fault) ending.Done a b = none_some fault b.0 a.0
  one_kind (ending.Trace fault) (ending.Trace other) a b = tt
  one_kind (ending.Trace fault) (ending.Fault time kind place) a b = a.1.no_fault time b.0 kind b.2
  one_kind (ending.Trace fault) (ending.Limit count time) a b = a.1.no_limit time b.1
  one_kind (ending.Fault time kind place) ending.Done a b = b.1.no_fault time a.0 kind a.2
  one_kind (ending.Fault time kind place) (ending.Trace fault) a b = b.1.no_fault time a.0 kind a.2
  one_kind (ending.Fault time kind place) (ending.Fault t k p) a b = tt
  one_kind (ending.Fault time kind place) (ending.Limit count t) a b = fault_limit time a.0 kind t a.2 b.1
  one_kind (ending.Limit count time) ending.Done a b = b.1.no_limit time a.1
  one_kind (ending.Limit count time) (ending.Trace fault) a b = b.1.no_limit time a.1
  one_kind (ending.Limit count time) (ending.Fault t kind place) a b = fault_limit t b.0 kind time b.2 a.1
  one_kind (ending.Limit count time) (ending.Limit c t) a b = tt

-- ---- of the bench
module _ (s : System) (count : ℕ) (z : Streams) (zs : SolvesClosed s options (trace_text count) true z) where
  stopped_says : (how : RunEnding) → IsStopped s count how → Says s options (trace_text count) z how
  stopped_says how stop = said s options (trace_text count) stop.front stop.rest stop.is z zs how stop.ended stop.ended_is stop.cause

  whole_says : (set : List ℕ) (tally : Tally) → IsTallied s set count tally → Says s options (trace_text count) z ending.Done
  whole_says set tally tallied = said_at_end s options (trace_text count) z zs ending.Done tallied.cause

  early_or_done : (how : RunEnding) → how ≢ ending.Done → AreOfOneKind ending.Done how → ⊥
  early_or_done ending.Done early same = early refl
  early_or_done (ending.Trace fault) early same = same
  early_or_done (ending.Fault time kind place) early same = same
  early_or_done (ending.Limit count time) early same = same

  pub ends_alike : (p q : List ℕ) (a b : Outcome) → IsOutcomeOf s p count a → IsOutcomeOf s q count b → EndsAlike a b
  ends_alike p q (outcome.Whole tally) (outcome.Whole other) a b = tt
  ends_alike p q (outcome.Whole tally) (outcome.Stopped how) a b =
      early_or_done how b.early (one_kind s options (trace_text count) z ending.Done how (whole_says p tally a) (stopped_says how b))
  ends_alike p q (outcome.Stopped how) (outcome.Whole tally) a b =
      early_or_done how a.early (one_kind s options (trace_text count) z ending.Done how (whole_says q tally b) (stopped_says how a))
  ends_alike p q (outcome.Stopped how) (outcome.Stopped other) a b = one_kind s options (trace_text count) z how other (stopped_says how a) (stopped_says other b)

pub one_ending : OneEnding
one_ending source count a b here there =
    let s = here.system in
    let same : there.system ≡ s = one_system source there.system s there.compiles here.compiles in
    let solves = solution source s here.compiles (inputs_of (lines_in s options (trace_text count) true)) (bound_in s options (trace_text count) true) in
    ends_alike s count solves.0 solves.1 here.set there.set a b here.is (subst (λ (u : System). IsOutcomeOf u there.set count b) same there.is)
