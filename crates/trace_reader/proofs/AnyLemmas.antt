-- What the calls of a reader make of it, whatever it stands for.
use Rattle.std.proofs.Common.{◌≡◌, ◌≤◌, ◌<◌, ℕ, ◌+◌, min, Bool, true, false, List, ◌++◌, length, take, Option, Some, None, Result, Ok, Err, IfSome, refl, sym, ap, subst, ◌∙◌, arith}
use Rattle.std.proofs.lemmas.Bool.{ltb-false}
use Rattle.std.specs.Prelude.{if◌then◌else◌, is_none, slice_get}
use Rattle.std.specs.Option.{option_or}
use Rattle.flat_core.specs.Line.{Line}
use Rattle.trace_reader.specs.declared.fault.TraceFault.{TraceFault}
use Rattle.trace_reader.specs.declared.fault.TraceFault.TheVariants as fault
use Rattle.trace_reader.specs.declared.limits.TheConstants.{MOST_LINE_BYTES}
use Rattle.trace_reader.specs.declared.next.Next.{Next}
use Rattle.trace_reader.specs.declared.next.Next.TheVariants as next
use Rattle.trace_reader.specs.Form.{is_long, split_once}
use Rattle.trace_reader.specs.Reading.{alone, first_line, on_line, overflow}
use Rattle.trace_reader.specs.inner.AnyReader.{AreAsSet, HasAnswered, HasEnded, HasFed, HasGiven, line_refused, rest_refused}
use Rattle.trace_reader.specs.inner.LastTime.{or_zero}
use Rattle.trace_reader.specs.inner.Reader.{AwaitsMore, HasLine, IsSound, Passes, Reader, at_fault, had_now, last_counts, left_of}
use Rattle.trace_reader.specs.inner.Reads.{IfMore, Keeps, Rests, TakesLine, after_all}
use Rattle.trace_reader.proofs.JudgedLemmas.{line_stands}
use Rattle.trace_reader.proofs.StandLemmas.{get_fits, take_fits}
use Rattle.trace_reader.proofs.StepLemmas.{line_fewer}

not_back : (last : Option ℕ) (t : ℕ) → or_zero last ≤ t → IfSome last (λ u. u ≤ t)
not_back None t later = tt
not_back (Some last) t later = later

pub line_given : (old new : Reader) (len : ℕ) (l : Line) → HasLine old len → 0 < length old.unread → TakesLine old new len (Ok (next.Line l)) → HasGiven old new l
line_given old new len l has some takes =
    let stands = line_stands old.system old.strict (had_now old.last old.seen) (or_zero old.last) (old.count + 1) (take len old.unread) l takes.0 in
    let is = takes.1.is in
    record {
      len = len;
      line = has;
      judged = takes.0;
      past = takes.1;
      proper = stands.proper;
      not_back = not_back old.last l.time stands.later;
      fresh = stands.new;
      fewer = line_fewer old new len (Ok (next.Line l)) some takes;
      as_set = record {
        system = ap (λ (r : Reader). r.system) is;
        strict = ap (λ (r : Reader). r.strict) is;
        limit = ap (λ (r : Reader). r.limit) is;
        taken = ap (λ (r : Reader). r.taken) is;
      };
      last_is = ap (λ (r : Reader). r.last) is;
      seen_is = ap (λ (r : Reader). r.seen) is;
    }

pub answers_line : (old new : Reader) (len : ℕ) (result : Result Next TraceFault) → HasLine old len → 0 < length old.unread → TakesLine old new len result → HasAnswered old new result
answers_line old new len (Ok (next.Line l)) has some takes = line_given old new len l has some takes
answers_line old new len (Ok next.More) has some takes = absurd takes
answers_line old new len (Ok next.End) has some takes = absurd takes
answers_line old new len (Err fault.Memory) has some takes = (takes, tt)
answers_line old new len (Err (fault.BadLine n)) has some takes = (takes.1, line_refused len has takes.0)
answers_line old new len (Err (fault.TimeTooLarge n)) has some takes = (takes.1, line_refused len has takes.0)
answers_line old new len (Err (fault.TimeBack n before at)) has some takes = (takes.1, line_refused len has takes.0)
answers_line old new len (Err (fault.UnknownStream n)) has some takes = (takes.1, line_refused len has takes.0)
answers_line old new len (Err (fault.WrongValue n name)) has some takes = (takes.1, line_refused len has takes.0)
answers_line old new len (Err (fault.Twice n name)) has some takes = (takes.1, line_refused len has takes.0)
answers_line old new len (Err (fault.LineTooLong n)) has some takes = (takes.1, line_refused len has takes.0)
answers_line old new len (Err (fault.TraceTooLong n)) has some takes = (takes.1, line_refused len has takes.0)

-- nothing is refused after the lines, so what stands there is short
short_by : (long : Bool) (f : TraceFault) (o : Option TraceFault) → (if long then Some f else o) ≡ None → long ≡ false
short_by true f o is = absurd (cc)
short_by false f o is = refl

none_ends : (o p : Option (List ℕ × List ℕ)) → option_or o p ≡ None → o ≡ None
none_ends None p is = refl
none_ends (Some q) p is = absurd (cc)

pub rest_awaits : (r : Reader) → first_line r.unread (last_counts r) ≡ None → r.refused ≡ None → after_all r ≡ None → r.beyond ≡ None → r.ended ≡ false → AwaitsMore r
rest_awaits r none accepted nothing within unended =
    let size = length r.unread + length (on_line r.beyond) in
    let few = ltb-false MOST_LINE_BYTES size (short_by (is_long size) (fault.LineTooLong (r.count + 1)) (overflow r.beyond (r.count + 1)) nothing) in
    record {
      no_line = none_ends (split_once 10 r.unread) (if last_counts r then alone r.unread else None) none;
      short = omega arith;
      within = within;
      unended = unended;
      accepted = accepted;
    }

pub answers_rest : (old new : Reader) (result : Result Next TraceFault) → IsSound old → first_line old.unread (last_counts old) ≡ None → old.refused ≡ None → Rests old new result → HasAnswered old new result
answers_rest old new (Ok (next.Line l)) sound none accepted it = absurd it
answers_rest old new (Ok next.More) sound none accepted (nothing, within, unended, is) = (
  is,
  subst AwaitsMore (sym is) (rest_awaits old none accepted nothing within unended),
  subst (λ (r : Reader). r.taken ≤ r.limit) (sym is) (sound.within within),
)
answers_rest old new (Ok next.End) sound none accepted it = (it.2, it.1, record { no_line = none; nothing = it.0; accepted = accepted })
answers_rest old new (Err fault.Memory) sound none accepted it = (it, tt)
answers_rest old new (Err (fault.BadLine n)) sound none accepted it = (it.1, rest_refused none it.0)
answers_rest old new (Err (fault.TimeTooLarge n)) sound none accepted it = (it.1, rest_refused none it.0)
answers_rest old new (Err (fault.TimeBack n before at)) sound none accepted it = (it.1, rest_refused none it.0)
answers_rest old new (Err (fault.UnknownStream n)) sound none accepted it = (it.1, rest_refused none it.0)
answers_rest old new (Err (fault.WrongValue n name)) sound none accepted it = (it.1, rest_refused none it.0)
answers_rest old new (Err (fault.Twice n name)) sound none accepted it = (it.1, rest_refused none it.0)
answers_rest old new (Err (fault.LineTooLong n)) sound none accepted it = (it.1, rest_refused none it.0)
answers_rest old new (Err (fault.TraceTooLong n)) sound none accepted it = (it.1, rest_refused none it.0)

-- `More` leaves a reader that awaits more
pub answered_more : (old new : Reader) (result : Result Next TraceFault) → HasAnswered old new result → IfMore result (AwaitsMore new)
answered_more old new (Ok (next.Line l)) it = tt
answered_more old new (Ok next.More) it = it.1
answered_more old new (Ok next.End) it = tt
answered_more old new (Err f) it = tt

-- no answer changes which inputs are read, how, and how much was fed
still_set : (old new : Reader) → new ≡ old → AreAsSet old new
still_set old new is = record {
  system = ap (λ (r : Reader). r.system) is;
  strict = ap (λ (r : Reader). r.strict) is;
  limit = ap (λ (r : Reader). r.limit) is;
  taken = ap (λ (r : Reader). r.taken) is;
}

fault_set : (old new : Reader) (f : TraceFault) → new ≡ at_fault old f → AreAsSet old new
fault_set old new f is = record {
  system = ap (λ (r : Reader). r.system) is;
  strict = ap (λ (r : Reader). r.strict) is;
  limit = ap (λ (r : Reader). r.limit) is;
  taken = ap (λ (r : Reader). r.taken) is;
}

keeps_set : (old new : Reader) (f : TraceFault) → Keeps old new (Err f) → AreAsSet old new
keeps_set old new fault.Memory it = still_set old new it
keeps_set old new (fault.BadLine n) it = fault_set old new (fault.BadLine n) it
keeps_set old new (fault.TimeTooLarge n) it = fault_set old new (fault.TimeTooLarge n) it
keeps_set old new (fault.TimeBack n before at) it = fault_set old new (fault.TimeBack n before at) it
keeps_set old new (fault.UnknownStream n) it = fault_set old new (fault.UnknownStream n) it
keeps_set old new (fault.WrongValue n name) it = fault_set old new (fault.WrongValue n name) it
keeps_set old new (fault.Twice n name) it = fault_set old new (fault.Twice n name) it
keeps_set old new (fault.LineTooLong n) it = fault_set old new (fault.LineTooLong n) it
keeps_set old new (fault.TraceTooLong n) it = fault_set old new (fault.TraceTooLong n) it

pub set_on : (first old new : Reader) (result : Result Next TraceFault) → AreAsSet first old → HasAnswered old new result → AreAsSet first new
set_on first old new result before it =
    let after = by result it in
    record {
      system = after.system ∙ before.system;
      strict = after.strict ∙ before.strict;
      limit = after.limit ∙ before.limit;
      taken = after.taken ∙ before.taken;
    }
  where
    by : (r : Result Next TraceFault) → HasAnswered old new r → AreAsSet old new
    by (Ok (next.Line l)) given = given.as_set
    by (Ok next.More) given = still_set old new given.0
    by (Ok next.End) given = still_set old new given.0
    by (Err f) given = keeps_set old new f given.0

-- a piece that is fed
pub has_fed : (r : Reader) (piece unread rest : List ℕ) (fits skipped : ℕ) (beyond : Option ℕ) → fits ≡ min (length piece) (left_of r) → unread ≡ r.unread ++ take fits piece → beyond ≡ slice_get piece fits →
    Passes false unread skipped rest → HasFed r (record r { taken = r.taken + length piece; unread = rest; beyond = beyond; count = r.count + skipped }) piece
has_fed r piece unread rest fits skipped beyond least is next passes = record {
  skipped = skipped;
  rest = rest;
  passes = subst (λ (bytes : List ℕ). Passes false bytes skipped rest) (is ∙ ap (λ bytes. r.unread ++ bytes) (take_fits (left_of r) piece fits least)) passes;
  is = λ k. record r { taken = r.taken + length piece; unread = rest; beyond = (next ∙ get_fits (left_of r) piece fits least) k; count = r.count + skipped };
}

-- the end of the trace is told
pub has_ended : (r : Reader) (skipped : ℕ) (rest : List ℕ) → Passes (is_none r.beyond) r.unread skipped rest → r.ended ≡ false → HasEnded r (record r { ended = true; unread = rest; count = r.count + skipped })
has_ended r skipped rest passes unended = record { skipped = skipped; rest = rest; passes = passes; is = refl }
