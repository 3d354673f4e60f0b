-- How a question stands, by what a run over the same bytes has come to.
use Rattle.std.proofs.Common.{◌≡◌, ℕ, suc, ◌+◌, ◌-◌, ◌<◌, ◌≤◌, max, Bool, true, false, List, [], ◌∷◌, length, None, Option, Some, Contains, slice_get, take, inl, inr, refl, sym, ◌∙◌, ap, subst, arith}
use Rattle.std.specs.List.{AllByRecursion}
use Rattle.std.specs.Prelude.{if◌then◌else◌, is_none, nat_le}
use Rattle.std.proofs.lemmas.Bool.{cases_Bool, leb-false, leb-true}
use Rattle.lift_func.specs.declared.fault.FaultKind.{FaultKind}
use Rattle.flat_core.specs.Case.{Streams}
use Rattle.flat_core.specs.Complete.{IsFlat}
use Rattle.flat_core.specs.Ending.{EndsInFault, EndsAtLimit}
use Rattle.flat_core.specs.Instant.{instants}
use Rattle.flat_core.specs.Line.{Line, inputs_of, last_time}
use Rattle.flat_core.specs.Solution.{Solves}
use Rattle.flat_core.specs.System.{System}
use Rattle.flat_core.specs.Text.{due_instants}
use Rattle.flat_core.specs.WellFormed.{IsWellFormed}
use Rattle.flat_core.proofs.Instants.{instants_below}
use Rattle.flat_core.proofs.Members.{all_at}
use Rattle.flat_core.proofs.SmallerBound.{solves_less}
use Rattle.tsl_value.proofs.Lists.{all_take, contains_at, in_kept}
use Rattle.tsl_value.specs.declared.place.Place.{Place}
use Rattle.trace_monitor.specs.declared.ending.RunEnding.{RunEnding}
use Rattle.trace_monitor.specs.declared.ending.RunEnding.TheVariants as run
use Rattle.trace_monitor.specs.declared.options.Options.{Options}
use Rattle.trace_monitor.specs.Due.{bound_in, lines_in, refused_in}
use Rattle.trace_monitor.specs.Ending.{GoesOn, InAll, IsQuiet}
use Rattle.trace_monitor.specs.Next.{IsNext}
use Rattle.trace_reader.specs.Closed.{closed_below}
use Rattle.trace_reader.specs.declared.fault.TraceFault.{TraceFault}
use Rattle.trace_reader.specs.Reading.{Reading, reading}
use Rattle.trace_why.specs.declared.course.Course.TheVariants as course
use Rattle.trace_why.specs.declared.ending.WhyEnding.TheVariants as ending
use Rattle.trace_why.specs.declared.question.Question.{Question}
use Rattle.trace_why.specs.Answer.{AnswersBy}
use Rattle.trace_why.specs.Ending.{InAllFor, IsAwaited, IsQuietFor, counted_below}
use Rattle.trace_why.specs.inner.Course.{HasRun, IsClosedFor, IsCourse, comes_in_time, course_after, ending_of}
use Rattle.trace_why.proofs.Bounds.{fault_below, limit_below, quiet_before_fault, quiet_before_limit, quiet_below}

-- ---- which times are closed
refused_last : (r : Reading) (until : ℕ) (ended : Bool) (f : TraceFault) → r.refused ≡ Some f → closed_below r until ended ≡ last_time r.lines
refused_last r until false f is = refl
refused_last r until true f is = ap (λ x. if is_none x then max (last_time r.lines) until + 1 else last_time r.lines) is

whole_closed : (r : Reading) (until : ℕ) → r.refused ≡ None → closed_below r until true ≡ max (last_time r.lines) until + 1
whole_closed r until is = ap (λ x. if is_none x then max (last_time r.lines) until + 1 else last_time r.lines) is

module _ (s : System) (whole : IsFlat s) (formed : IsWellFormed s) (o : Options) (q : Question) (bytes : List ℕ) (ended : Bool) where
  abbrev lines : List Line
  lines = lines_in s o bytes ended

  abbrev high : ℕ
  high = bound_in s o bytes ended

  abbrev low : ℕ
  low = counted_below s o q bytes ended

  le : low ≤ high
  le = omega arith

  -- from all streams up to what is closed to all up to what counts
  down : {P Q : Streams → Type 0} → InAll s o bytes ended P
      → ((z w : Streams) → Solves s (inputs_of lines) high z → Solves s (inputs_of lines) low w → P z → Q w) → InAllFor s o q bytes ended Q
  down all step = let (z, zs) = all.solved in record {
    solved = (z, solves_less s (inputs_of lines) low high z le zs);
    each = λ w ws. step z w zs ws (all.each z zs);
  }

  quiet : IsQuiet s o bytes ended → IsQuietFor s o q bytes ended
  quiet is = down is (λ z w zs ws. quiet_below s whole formed lines low high o.instants le z w zs ws)

  first_below : (z : Streams) → AllByRecursion (λ u. u < high) (take o.instants (instants s lines z high))
  first_below z = all_take (λ u. u < high) o.instants (instants s lines z high) (instants_below s lines z high)

  fault_early : (z : Streams) (t i : ℕ) (kind : FaultKind) → EndsInFault s lines z high o.instants t i kind → t < high
  fault_early z t i kind ends = all_at (λ u. u < high) (take o.instants (instants s lines z high)) (first_below z) t ends.within

  limit_early : (z : Streams) (t : ℕ) → EndsAtLimit s lines z high o.instants t → t < high
  limit_early z t ends = all_at (λ u. u < high) (instants s lines z high) (instants_below s lines z high) t (contains_at (instants s lines z high) o.instants t ends.next)

  abbrev Next : RunEnding → Type 0
  Next by = IsNext s o bytes ended (Some by)

  -- ---- the trace goes on
  awaited : ended ≡ false → GoesOn s o bytes → last_time lines ≤ q.time → IsAwaited s o q bytes ended
  awaited unended on early =
      let bound : high ≡ last_time lines = ap (closed_below (reading s o.strict o.bytes bytes ended) o.until) unended in
      record {
        unended = unended;
        accepted = subst (λ e. refused_in s o bytes e ≡ None) (sym unended) on.accepted;
        still_open = omega arith;
        quiet = quiet (subst (λ e. IsQuiet s o bytes e) (sym unended) on.quiet);
      }

  closed_on : ended ≡ false → GoesOn s o bytes → q.time < last_time lines → IsClosedFor s o q bytes ended
  closed_on unended on late =
      let bound : high ≡ last_time lines = ap (closed_below (reading s o.strict o.bytes bytes ended) o.until) unended in
      record { closed = omega arith; quiet = quiet (subst (λ e. IsQuiet s o bytes e) (sym unended) on.quiet) }

  -- ---- it has ended
  done_bound : ended ≡ true → refused_in s o bytes ended ≡ None → high ≡ max (last_time lines) o.until + 1
  done_bound end accepted =
      ap (closed_below (reading s o.strict o.bytes bytes ended) o.until) end
      ∙ whole_closed (reading s o.strict o.bytes bytes ended) o.until accepted

  none_due : high ≤ q.time → (z : Streams) → Contains (due_instants s lines z low o.instants) q.time → ⊥
  none_due early z due =
      let among = (in_kept _ _ q.time due).0 in
      let lt = all_at (λ u. u < low) _ (all_take (λ u. u < low) o.instants _ (instants_below s lines z low)) q.time among in
      absurd (omega arith)

  ended_before : Next run.Done → max (last_time lines) o.until < q.time → AnswersBy s o q bytes ended ending.NoEvent
  ended_before (end, accepted, still) late =
      let bound = done_bound end accepted in
      let here = quiet still in (
        inr (end, accepted),
        here,
        record { solved = here.solved; each = λ z zs v has. none_due (omega arith) z has.due },
      )

  closed_at_end : Next run.Done → q.time ≤ max (last_time lines) o.until → IsClosedFor s o q bytes ended
  closed_at_end (end, accepted, still) early = let bound = done_bound end accepted in record { closed = omega arith; quiet = quiet still }

  -- ---- a line is refused
  refused_open : (f : TraceFault) → Next (run.Trace f) → last_time lines ≤ q.time → AnswersBy s o q bytes ended (ending.Refused f)
  refused_open f (refused, still) early =
      let bound = refused_last (reading s o.strict o.bytes bytes ended) o.until ended f refused in (omega arith, refused, quiet still)

  refused_later : (f : TraceFault) → Next (run.Trace f) → q.time < last_time lines → IsClosedFor s o q bytes ended
  refused_later f (refused, still) late =
      let bound = refused_last (reading s o.strict o.bytes bytes ended) o.until ended f refused in record { closed = omega arith; quiet = quiet still }

  -- ---- an instant ends the run
  faulted : (t : ℕ) (kind : FaultKind) (place : Place) → Next (run.Fault t kind place) → t ≤ q.time → AnswersBy s o q bytes ended (ending.Fault t kind place)
  faulted t kind place (i, at, all) early = (
    i,
    at,
    down all (λ z w zs ws ends.
        let lt = fault_early z t i kind ends in
        fault_below s whole formed lines low high o.instants le z w zs ws t i kind (omega arith) ends),
  )

  fault_later : (t : ℕ) (kind : FaultKind) (place : Place) → Next (run.Fault t kind place) → q.time < t → IsClosedFor s o q bytes ended
  fault_later t kind place (i, at, all) late = let (z, zs) = all.solved in let lt = fault_early z t i kind (all.each z zs) in record {
    closed = omega arith;
    quiet = down all (λ z w zs ws ends. quiet_before_fault s whole formed lines low high o.instants le z w zs ws t i kind (omega arith) ends);
  }

  limited : (count t : ℕ) → Next (run.Limit count t) → t ≤ q.time → AnswersBy s o q bytes ended (ending.Limit count t)
  limited count t (is, all) early = (
    is,
    down all (λ z w zs ws ends.
        let lt = limit_early z t ends in
        limit_below s whole formed lines low high o.instants le z w zs ws t (omega arith) ends),
  )

  limit_later : (count t : ℕ) → Next (run.Limit count t) → q.time < t → IsClosedFor s o q bytes ended
  limit_later count t (is, all) late = let (z, zs) = all.solved in let lt = limit_early z t (all.each z zs) in record {
    closed = omega arith;
    quiet = down all (λ z w zs ws ends. quiet_before_limit s whole formed lines low high o.instants le z w zs ws t (omega arith) ends);
  }

  -- ---- all of them
  in_time : (by : RunEnding) → Next by → comes_in_time by (last_time lines) o.until q.time ≡ true → AnswersBy s o q bytes ended (ending_of by)
  in_time run.Done next is = ended_before next (leb-true (suc (max (last_time lines) o.until)) q.time is)
  in_time (run.Trace f) next is = refused_open f next (leb-true (last_time lines) q.time is)
  in_time (run.Fault t kind place) next is = faulted t kind place next (leb-true t q.time is)
  in_time (run.Limit count t) next is = limited count t next (leb-true t q.time is)

  too_late : (by : RunEnding) → Next by → comes_in_time by (last_time lines) o.until q.time ≡ false → IsClosedFor s o q bytes ended
  too_late run.Done next is = let lt = leb-false (suc (max (last_time lines) o.until)) q.time is in closed_at_end next (omega arith)
  too_late (run.Trace f) next is = refused_later f next (leb-false (last_time lines) q.time is)
  too_late (run.Fault t kind place) next is = fault_later t kind place next (leb-false t q.time is)
  too_late (run.Limit count t) next is = limit_later count t next (leb-false t q.time is)

  course_is : (by : Option RunEnding) → IsNext s o bytes ended by → IsCourse s o q bytes ended (course_after by (last_time lines) o.until q.time)
  course_is None (unended, on) = elim (cases_Bool (nat_le (last_time lines) q.time)) [
    | inl early ↦ subst (λ (b : Bool). IsCourse s o q bytes ended (if b then course.Open else course.Closed)) (sym early)
        (awaited unended on (leb-true (last_time lines) q.time early))
    | inr late ↦ subst (λ (b : Bool). IsCourse s o q bytes ended (if b then course.Open else course.Closed)) (sym late)
        (closed_on unended on (leb-false (last_time lines) q.time late))
  ]
  course_is (Some by) next = elim (cases_Bool (comes_in_time by (last_time lines) o.until q.time)) [
    | inl early ↦ subst (λ (b : Bool). IsCourse s o q bytes ended (if b then course.Ended (ending_of by) else course.Closed)) (sym early) (in_time by next early)
    | inr late ↦ subst (λ (b : Bool). IsCourse s o q bytes ended (if b then course.Ended (ending_of by) else course.Closed)) (sym late) (too_late by next late)
  ]

  pub course_of_run : (ls : List Line) (by : Option RunEnding) (last : ℕ) → last ≡ last_time ls → HasRun s o bytes ended ls by
      → IsCourse s o q bytes ended (course_after by last o.until q.time)
  course_of_run ls by last is run =
      let here : last ≡ last_time lines = is ∙ ap last_time run.lines_are in
      subst (λ n. IsCourse s o q bytes ended (course_after by n o.until q.time)) (sym here) (course_is by run.next)

-- where the trace goes on, the run does
pub open_goes_on : (by : Option RunEnding) (last until asked : ℕ) → course_after by last until asked ≡ course.Open → by ≡ None
open_goes_on None last until asked is = refl
open_goes_on (Some by) last until asked is = absurd (never (comes_in_time by last until asked) is)
  where
    never : (b : Bool) → (if b then course.Ended (ending_of by) else course.Closed) ≡ course.Open → ⊥
    never true p = cc
    never false p = cc

-- the time of the last line
pub last_line : (ls : List Line) (l : Line) → slice_get ls (length ls - 1) ≡ Some l → last_time ls ≡ l.time
last_line [] l at = absurd (cc)
last_line (x ∷ []) l at = let same : x ≡ l = cc in ap (λ (y : Line). y.time) same
last_line (x ∷ m ∷ ls) l at =
    let less : suc (suc (length ls)) - 1 ≡ suc (length ls) = omega arith in
    let here : length ls ≡ suc (length ls) - 1 = omega arith in
    last_line (m ∷ ls) l (subst (λ n. slice_get (m ∷ ls) n ≡ Some l) here (subst (λ n. slice_get (x ∷ m ∷ ls) n ≡ Some l) less at))
