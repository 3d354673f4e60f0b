-- What an answer says of the trace, and what the reader stands for after it.
use Rattle.std.proofs.Common.{◌≡◌, ◌≤◌, ◌<◌, ℕ, ◌+◌, min, Bool, true, false, ◌&&◌, List, [], ◌∷◌, ◌++◌, length, take, drop, Option, Some, None, Result, Ok, Err, refl, sym, ap, subst, ◌∙◌, arith, append_assoc, length-drop, add-zero}
use Rattle.std.proofs.lemmas.List.{append-nil}
use Rattle.std.specs.Prelude.{if◌then◌else◌, is_none, is_some, not, option_to_list, slice_get}
use Rattle.std.specs.Option.{option_or}
use Rattle.flat_core.specs.System.{System}
use Rattle.flat_core.specs.Line.{Line, IsSorted, last_time}
use Rattle.trace_reader.specs.declared.fault.TraceFault.{TraceFault}
use Rattle.trace_reader.specs.declared.fault.TraceFault.TheVariants as fault
use Rattle.trace_reader.specs.declared.next.Next.{Next}
use Rattle.trace_reader.specs.declared.next.Next.TheVariants as next
use Rattle.trace_reader.specs.Form.{content, is_long, says_nothing, split_once}
use Rattle.trace_reader.specs.Reading.{Reading, alone, first_line, had_event, is_among, judged, judged_content, go_on, reading, read_on}
use Rattle.trace_reader.specs.inner.LastTime.{last_read, or_zero}
use Rattle.trace_reader.specs.inner.Reader.{Reader, HasLine, Passes, StopsAtLine, had_now, is_skipped, judged_at, last_counts, left_of, passed, past_line, seen_with, at_fault}
use Rattle.trace_reader.specs.inner.Reads.{HasPassed, Reads, MayCome, IfLine, IsPastLine, after, after_all, IsAllOf, SaysNext, lines_in, TakesLine, Rests}
use Rattle.trace_reader.proofs.JudgedLemmas.{line_stands, never_memory}
use Rattle.trace_reader.proofs.LineLemmas.{reading_sorted}
use Rattle.trace_reader.proofs.SeenLemmas.{had_same, judged_same, last_read-push, last_zero, seen_push}
use Rattle.trace_reader.proofs.PassedLemmas.{passed_line}
use Rattle.trace_reader.proofs.StandLemmas.{reads_end, reads_fed, take-nil}
use Rattle.trace_reader.proofs.CutLemmas.{split_by, split_once-append, read_by, read_on-first}

or_none : (o : Option ℕ) (n : ℕ) → (let none : List ℕ = [] in option_or o (slice_get none n)) ≡ o
or_none None n = refl
or_none (Some b) n = refl

-- a line's end that stands in bytes stands in them with more after
ended_line : {A : Type 0} (o : Option A) (p : A) → option_or o None ≡ Some p → o ≡ Some p
ended_line None p is = absurd (cc)
ended_line (Some q) p is = is

sorted_front : (xs ys : List Line) → IsSorted (xs ++ ys) → IsSorted xs
sorted_front [] ys it = tt
sorted_front (x ∷ []) ys it = tt
sorted_front (x ∷ y ∷ xs) ys it = (it.0, sorted_front (y ∷ xs) ys it.1)

module _ (r : Reader) where
  abbrev more_bytes : List ℕ → List ℕ
  more_bytes more = r.unread ++ take (left_of r) more

  abbrev more_beyond : List ℕ → Option ℕ
  more_beyond more = option_or r.beyond (slice_get more (left_of r))

  -- nothing comes
  no_bytes : more_bytes [] ≡ r.unread
  no_bytes = ap (λ bytes. r.unread ++ bytes) (take-nil (left_of r)) ∙ append-nil r.unread

  no_beyond : more_beyond [] ≡ r.beyond
  no_beyond = or_none r.beyond (left_of r)

  -- before the end of the trace a line that stands has an end
  pub line_ends : (len : ℕ) → r.ended ≡ false → HasLine r len → split_once 10 r.unread ≡ Some (take len r.unread, drop (len + 1) r.unread)
  line_ends len unended has =
      ended_line (split_once 10 r.unread) (take len r.unread, drop (len + 1) r.unread)
      ((λ k. option_or (split_once 10 r.unread) (if sym unended k && is_none r.beyond then alone r.unread else None)) ∙ has)

  -- the first line that stands in what is kept is the first one of what is kept and what comes
  first_open : (len : ℕ) (more : List ℕ) (x : Bool) → r.ended ≡ false → HasLine r len →
      first_line (more_bytes more) x ≡ Some (take len r.unread, drop (len + 1) r.unread ++ take (left_of r) more)
  first_open len more x unended has =
      let line : List ℕ × List ℕ = (take len r.unread, drop (len + 1) r.unread) in
      let here : split_once 10 r.unread ≡ Some line = line_ends len unended has in
      ap (λ o. option_or o (if x then alone (more_bytes more) else None))
      (split_once-append 10 r.unread (take (left_of r) more) ∙ ap (λ o. split_by 10 o r.unread (take (left_of r) more)) here)

  first_closed : (len : ℕ) → r.ended ≡ true → HasLine r len →
      first_line (more_bytes []) (true && is_none (more_beyond [])) ≡ Some (take len r.unread, drop (len + 1) r.unread ++ take (left_of r) [])
  first_closed len closed has =
      (λ k. first_line (no_bytes k) (sym closed k && is_none (no_beyond k))) ∙ has
      ∙ ap (λ rest. Some (take len r.unread, rest)) (sym (ap (λ bytes. drop (len + 1) r.unread ++ bytes) (take-nil (left_of r)) ∙ append-nil (drop (len + 1) r.unread)))

  pub first_stands : (len : ℕ) (ended : Bool) → r.ended ≡ ended → HasLine r len → (more : List ℕ) (e : Bool) → MayCome ended more e →
      first_line (more_bytes more) (e && is_none (more_beyond more)) ≡ Some (take len r.unread, drop (len + 1) r.unread ++ take (left_of r) more)
  first_stands len false is has more e may = first_open len more (e && is_none (more_beyond more)) is has
  first_stands len true is has more e may =
      subst (λ (ms : List ℕ). first_line (more_bytes ms) (e && is_none (more_beyond ms)) ≡ Some (take len r.unread, drop (len + 1) r.unread ++ take (left_of r) ms)) (sym may.0)
      (subst (λ (x : Bool). first_line (more_bytes []) (x && is_none (more_beyond [])) ≡ Some (take len r.unread, drop (len + 1) r.unread ++ take (left_of r) [])) (sym may.1) (first_closed len is has))

may_none : (ended : Bool) → MayCome ended [] ended
may_none true = (refl, refl)
may_none false = tt

skipped_by : (s : System) (strict : Bool) (had : ℕ → ℕ → Bool) (last n : ℕ) (line : List ℕ) (long : Bool) → (if long then false else says_nothing (content line)) ≡ true →
    (if long then Err (fault.LineTooLong n) else judged_content s strict had last n (content line)) ≡ Ok None
skipped_by s strict had last n line true is = absurd (cc)
skipped_by s strict had last n line false is = nothing_by _ _ is
  where
    nothing_by : (r : Result (Option Line) TraceFault) (nothing : Bool) → nothing ≡ true → (if nothing then Ok None else r) ≡ Ok None
    nothing_by r nothing it = ap (λ b. if b then Ok None else r) it

pub skipped_judged : (s : System) (strict : Bool) (had : ℕ → ℕ → Bool) (last n : ℕ) (line : List ℕ) → is_skipped line ≡ true → judged s strict had last n line ≡ Ok None
skipped_judged s strict had last n line is = skipped_by s strict had last n line (is_long (length line)) is

module _ (old : Reader) (s : System) (strict : Bool) (limit : ℕ) (fed : List ℕ) (given : List Line) (ended : Bool) (reads : Reads old s strict limit fed given ended) where
  -- the reading of what was fed
  abbrev now : Reading
  now = reading s strict limit fed ended

  -- what follows the line of this length
  abbrev after_the_line : ℕ → List ℕ → Bool → Option Line → Reading
  after_the_line len more e l =
      read_on s strict (given ++ option_to_list l) (old.count + 1 + 1) (drop (len + 1) old.unread ++ take (left_of old) more) (more_beyond old more) e

  -- what was fed, with nothing after it
  now_is : (r : Reading) → reading s strict limit (fed ++ []) ended ≡ r → now ≡ r
  now_is r is = ap (λ bytes. reading s strict limit bytes ended) (sym (append-nil fed)) ∙ is

  given_is_sorted : IsSorted given
  given_is_sorted =
      let rest = read_on s strict given (old.count + 1) (more_bytes old []) (more_beyond old []) ended in
      sorted_front given rest.lines (subst IsSorted (ap (λ (r : Reading). r.lines) (now_is _ (reads.goes_on [] ended (may_none ended)))) (reading_sorted s strict limit fed ended))

  at_zero : last_time given ≡ or_zero old.last
  at_zero = last_zero given ∙ ap or_zero (sym reads.last)

  -- before the end of the trace, what was taken off the front with a line more are whole lines
  passed_then : (len : ℕ) → HasLine old len → ended ≡ false → HasPassed limit (old.count + 1) (drop (len + 1) old.unread) fed
  passed_then len has unended = passed_line limit old.count len old.unread fed (line_ends old len (reads.ended_is ∙ unended) has) (reads.passed unended)

  at_judged : (len : ℕ) → judged s strict (had_event given) (last_time given) (old.count + 1) (take len old.unread) ≡ judged_at old len
  at_judged len =
      judged_same s strict (had_event given) (had_now (last_read given) old.seen) (last_time given) (old.count + 1) (λ t i le. had_same given old.seen reads.seen t i given_is_sorted le) (take len old.unread)
      ∙ λ k. judged (sym reads.system k) (sym reads.strict_is k) (had_now (sym reads.last k) old.seen) (at_zero k) (old.count + 1) (take len old.unread)

  at_line : (len : ℕ) → HasLine old len → (more : List ℕ) (e : Bool) → MayCome ended more e →
      reading s strict limit (fed ++ more) e ≡ after given (go_on (judged_at old len) (after_the_line len more e))
  at_line len has more e may =
      reads.goes_on more e may
      ∙ ap (after given) (read_on-first s strict given (old.count + 1) (more_bytes old more) (more_beyond old more) e
      ∙ ap (read_by s strict given (old.count + 1) (more_beyond old more) e (more_bytes old more)) (first_stands old len ended reads.ended_is has more e may)
      ∙ ap (λ j. go_on j (after_the_line len more e)) (at_judged len))

  after_line : (l : Line) (r : Reading) → after given (record { lines = l ∷ r.lines; refused = r.refused }) ≡ after (given ++ l ∷ []) r
  after_line l r = λ k. record { lines = sym (append_assoc given (l ∷ []) r.lines) k; refused = r.refused }

  at_given : (len : ℕ) (l : Line) → HasLine old len → judged_at old len ≡ Ok (Some l) → (more : List ℕ) (e : Bool) → MayCome ended more e →
      reading s strict limit (fed ++ more) e ≡ after (given ++ l ∷ []) (after_the_line len more e (Some l))
  at_given len l has is more e may =
      at_line len has more e may ∙ ap (λ j. after given (go_on j (after_the_line len more e))) is ∙ after_line l (after_the_line len more e (Some l))

  pub reads_line : (len : ℕ) (l : Line) → HasLine old len → old.refused ≡ None → judged_at old len ≡ Ok (Some l) → Reads (past_line old len l) s strict limit fed (given ++ l ∷ []) ended
  reads_line len l has accepted is =
      let stands = line_stands old.system old.strict (had_now old.last old.seen) (or_zero old.last) (old.count + 1) (take len old.unread) l is in
      let later : last_time given ≤ l.time = let le = stands.later in let same = at_zero in omega arith in
      record {
        system = reads.system;
        strict_is = reads.strict_is;
        limit_is = reads.limit_is;
        taken_is = reads.taken_is;
        ended_is = reads.ended_is;
        last = sym (last_read-push given l);
        seen = λ i. (λ k. is_among (seen_with (reads.last k) old.seen l) i) ∙ seen_push given l old.seen reads.seen given_is_sorted later i;
        passed = passed_then len has;
        goes_on = at_given len l has is;
        refused = λ f is_refused. absurd (cc);
      }

  -- a line that is skipped
  pub reads_skipped : (len : ℕ) → HasLine old len → is_skipped (take len old.unread) ≡ true → Reads (passed old 1 (drop (len + 1) old.unread)) s strict limit fed given ended
  reads_skipped len has skips =
      let is : judged_at old len ≡ Ok None = skipped_judged old.system old.strict (had_now old.last old.seen) (or_zero old.last) (old.count + 1) (take len old.unread) skips in
      record {
        system = reads.system;
        strict_is = reads.strict_is;
        limit_is = reads.limit_is;
        taken_is = reads.taken_is;
        ended_is = reads.ended_is;
        last = reads.last;
        seen = reads.seen;
        passed = passed_then len has;
        goes_on = λ more e may.
            at_line len has more e may ∙ ap (λ j. after given (go_on j (after_the_line len more e))) is
            ∙ λ k. after given (read_on s strict (append-nil given k) (old.count + 1 + 1) (drop (len + 1) old.unread ++ take (left_of old) more) (more_beyond old more) e);
        refused = reads.refused;
      }

  says_line : (len : ℕ) (l : Line) → HasLine old len → judged_at old len ≡ Ok (Some l) → SaysNext now given ended (Ok (next.Line l))
  says_line len l has is =
      let rest = after_the_line len [] ended (Some l) in
      (rest.lines, ap (λ (r : Reading). r.lines) (now_is _ (at_given len l has is [] ended (may_none ended))) ∙ append_assoc given (l ∷ []) rest.lines)

  no_more : (f : TraceFault) → after given (record { lines = []; refused = Some f }) ≡ record { lines = given; refused = Some f }
  no_more f = λ k. record { lines = append-nil given k; refused = Some f }

  refused_line : (len : ℕ) (f : TraceFault) → HasLine old len → judged_at old len ≡ Err f → now ≡ record { lines = given; refused = Some f }
  refused_line len f has is =
      now_is _ (at_line len has [] ended (may_none ended) ∙ ap (λ j. after given (go_on j (after_the_line len [] ended))) is ∙ no_more f)

  -- where no line stands
  pub at_rest : first_line old.unread (last_counts old) ≡ None → now ≡ record { lines = given; refused = after_all old }
  at_rest none =
      now_is _ (reads.goes_on [] ended (may_none ended)
      ∙ ap (after given) ((λ k. read_on s strict given (old.count + 1) (no_bytes old k) (no_beyond old k) ended)
      ∙ read_on-first s strict given (old.count + 1) old.unread old.beyond ended
      ∙ ap (read_by s strict given (old.count + 1) old.beyond ended old.unread) ((λ k. first_line old.unread (sym reads.ended_is k && is_none old.beyond)) ∙ none))
      ∙ λ k. record { lines = append-nil given k; refused = after_all old })

  -- the same lines, and the fault that was answered
  pub reads_fault : (f : TraceFault) → now ≡ record { lines = given; refused = Some f } → Reads (at_fault old f) s strict limit fed given ended
  reads_fault f is = record {
    system = reads.system;
    strict_is = reads.strict_is;
    limit_is = reads.limit_is;
    taken_is = reads.taken_is;
    ended_is = reads.ended_is;
    last = reads.last;
    seen = reads.seen;
    passed = reads.passed;
    goes_on = reads.goes_on;
    refused = λ g same. is ∙ ap (λ o. record { lines = given; refused = o }) same;
  }

  says_fault : (f : TraceFault) → now ≡ record { lines = given; refused = Some f } → SaysNext now given ended (Err f)
  says_fault (fault.BadLine n) is = is
  says_fault (fault.TimeTooLarge n) is = is
  says_fault (fault.TimeBack n before at) is = is
  says_fault (fault.UnknownStream n) is = is
  says_fault (fault.WrongValue n name) is = is
  says_fault (fault.Twice n name) is = is
  says_fault (fault.LineTooLong n) is = is
  says_fault (fault.TraceTooLong n) is = is
  says_fault fault.Memory is = tt

  same_given : (r : Reader) → Reads r s strict limit fed given ended → Reads r s strict limit fed (given ++ []) ended
  same_given r it = subst (λ (ls : List Line). Reads r s strict limit fed ls ended) (sym (append-nil given)) it

-- lines that are skipped
count_same : (r : Reader) (s : System) (strict : Bool) (limit : ℕ) (fed : List ℕ) (given : List Line) (ended : Bool) (count : ℕ) → r.count ≡ count → Reads r s strict limit fed given ended → Reads (record r { count = count }) s strict limit fed given ended
count_same r s strict limit fed given ended count is it = subst (λ (n : ℕ). Reads (record r { count = n }) s strict limit fed given ended) is it

pub reads_passed : (old : Reader) (s : System) (strict : Bool) (limit : ℕ) (fed : List ℕ) (given : List Line) (ended : Bool) (count : ℕ) (rest : List ℕ) → Reads old s strict limit fed given ended →
    Passes (last_counts old) old.unread count rest → Reads (passed old count rest) s strict limit fed given ended
reads_passed old s strict limit fed given ended _ _ reads Passes.none = count_same old s strict limit fed given ended (old.count + 0) (sym (add-zero old.count)) reads
reads_passed old s strict limit fed given ended _ _ reads (Passes.more {count} {rest} len before has skips) =
    let it = reads_passed old s strict limit fed given ended count rest reads before in
    let sum : old.count + count + 1 ≡ old.count + (count + 1) = omega arith in
    count_same (passed (passed old count rest) 1 (drop (len + 1) rest)) s strict limit fed given ended (old.count + (count + 1)) sum
    (reads_skipped (passed old count rest) s strict limit fed given ended it len has skips)

module _ (old : Reader) (s : System) (strict : Bool) (limit : ℕ) (fed : List ℕ) (given : List Line) (ended : Bool) (reads : Reads old s strict limit fed given ended) where
  abbrev pub Answered : Reader → Result Next TraceFault → Type 0
  Answered new result = SaysNext (reading s strict limit fed ended) given ended result × Reads new s strict limit fed (given ++ lines_in result) ended

  same : (new : Reader) → new ≡ old → Reads new s strict limit fed (given ++ []) ended
  same new is = subst (λ (r : Reader). Reads r s strict limit fed (given ++ []) ended) (sym is) (same_given old s strict limit fed given ended reads old reads)

  answered_fault : (f : TraceFault) (new : Reader) → reading s strict limit fed ended ≡ record { lines = given; refused = Some f } → new ≡ at_fault old f → Answered new (Err f)
  answered_fault f new is new_is = (
    says_fault old s strict limit fed given ended reads f is,
    subst (λ (r : Reader). Reads r s strict limit fed (given ++ []) ended) (sym new_is)
        (same_given old s strict limit fed given ended reads (at_fault old f) (reads_fault old s strict limit fed given ended reads f is)),
  )

  refused_at : (new : Reader) (len : ℕ) (f : TraceFault) → HasLine old len → judged_at old len ≡ Err f → new ≡ at_fault old f → Answered new (Err f)
  refused_at new len f has is new_is = answered_fault f new (refused_line old s strict limit fed given ended reads len f has is) new_is

  pub takes_line : (new : Reader) (len : ℕ) (result : Result Next TraceFault) → HasLine old len → old.refused ≡ None → TakesLine old new len result → Answered new result
  takes_line new len (Ok (next.Line l)) has accepted takes =
      let past = takes.1 in (
        says_line old s strict limit fed given ended reads len l has takes.0,
        subst (λ (r : Reader). Reads r s strict limit fed (given ++ l ∷ []) ended) (sym past.is)
            (reads_passed (past_line old len l) s strict limit fed (given ++ l ∷ []) ended past.skipped past.rest (reads_line old s strict limit fed given ended reads len l has accepted takes.0) past.passes),
      )
  takes_line new len (Ok next.More) has accepted takes = absurd takes
  takes_line new len (Ok next.End) has accepted takes = absurd takes
  takes_line new len (Err fault.Memory) has accepted takes = (tt, same new takes)
  takes_line new len (Err (fault.BadLine n)) has accepted takes = refused_at new len (fault.BadLine n) has takes.0 takes.1
  takes_line new len (Err (fault.TimeTooLarge n)) has accepted takes = refused_at new len (fault.TimeTooLarge n) has takes.0 takes.1
  takes_line new len (Err (fault.TimeBack n before at)) has accepted takes = refused_at new len (fault.TimeBack n before at) has takes.0 takes.1
  takes_line new len (Err (fault.UnknownStream n)) has accepted takes = refused_at new len (fault.UnknownStream n) has takes.0 takes.1
  takes_line new len (Err (fault.WrongValue n name)) has accepted takes = refused_at new len (fault.WrongValue n name) has takes.0 takes.1
  takes_line new len (Err (fault.Twice n name)) has accepted takes = refused_at new len (fault.Twice n name) has takes.0 takes.1
  takes_line new len (Err (fault.LineTooLong n)) has accepted takes = refused_at new len (fault.LineTooLong n) has takes.0 takes.1
  takes_line new len (Err (fault.TraceTooLong n)) has accepted takes = refused_at new len (fault.TraceTooLong n) has takes.0 takes.1

  all_of : first_line old.unread (last_counts old) ≡ None → after_all old ≡ None → IsAllOf (reading s strict limit fed ended) given
  all_of none nothing = at_rest old s strict limit fed given ended reads none ∙ ap (λ o. record { lines = given; refused = o }) nothing

  refused_after : (new : Reader) (f : TraceFault) → first_line old.unread (last_counts old) ≡ None → after_all old ≡ Some f → new ≡ at_fault old f → Answered new (Err f)
  refused_after new f none is new_is = answered_fault f new (at_rest old s strict limit fed given ended reads none ∙ ap (λ o. record { lines = given; refused = o }) is) new_is

  pub rests : (new : Reader) (result : Result Next TraceFault) → first_line old.unread (last_counts old) ≡ None → Rests old new result → Answered new result
  rests new (Ok (next.Line l)) none rest = absurd rest
  rests new (Ok next.More) none rest = ((all_of none rest.0, sym reads.ended_is ∙ rest.2), same new rest.3)
  rests new (Ok next.End) none rest = ((all_of none rest.0, sym reads.ended_is ∙ rest.1), same new rest.2)
  rests new (Err fault.Memory) none rest = (tt, same new rest)
  rests new (Err (fault.BadLine n)) none rest = refused_after new (fault.BadLine n) none rest.0 rest.1
  rests new (Err (fault.TimeTooLarge n)) none rest = refused_after new (fault.TimeTooLarge n) none rest.0 rest.1
  rests new (Err (fault.TimeBack n before at)) none rest = refused_after new (fault.TimeBack n before at) none rest.0 rest.1
  rests new (Err (fault.UnknownStream n)) none rest = refused_after new (fault.UnknownStream n) none rest.0 rest.1
  rests new (Err (fault.WrongValue n name)) none rest = refused_after new (fault.WrongValue n name) none rest.0 rest.1
  rests new (Err (fault.Twice n name)) none rest = refused_after new (fault.Twice n name) none rest.0 rest.1
  rests new (Err (fault.LineTooLong n)) none rest = refused_after new (fault.LineTooLong n) none rest.0 rest.1
  rests new (Err (fault.TraceTooLong n)) none rest = refused_after new (fault.TraceTooLong n) none rest.0 rest.1

-- a line that is judged not to stand is refused, and the fault is kept
pub refuses_line : (old new : Reader) (len : ℕ) (f : TraceFault) → judged_at old len ≡ Err f → new ≡ at_fault old f → TakesLine old new len (Err f)
refuses_line old new len (fault.BadLine n) judged kept = (judged, kept)
refuses_line old new len (fault.TimeTooLarge n) judged kept = (judged, kept)
refuses_line old new len (fault.TimeBack n before at) judged kept = (judged, kept)
refuses_line old new len (fault.UnknownStream n) judged kept = (judged, kept)
refuses_line old new len (fault.WrongValue n name) judged kept = (judged, kept)
refuses_line old new len (fault.Twice n name) judged kept = (judged, kept)
refuses_line old new len (fault.LineTooLong n) judged kept = (judged, kept)
refuses_line old new len (fault.TraceTooLong n) judged kept = (judged, kept)
refuses_line old new len fault.Memory judged kept = absurd (never_memory old.system old.strict (had_now old.last old.seen) (or_zero old.last) (old.count + 1) (take len old.unread) judged)

pub none_from : {A : Type 0} (o : Option A) → ((x : A) → o ≡ Some x → ⊥) → o ≡ None
none_from None not = refl
none_from (Some x) not = absurd (not x refl)

-- A piece, and the end, with the skipped lines that stand at the front then.
pub reads_fed_on : (r : Reader) (s : System) (strict : Bool) (limit : ℕ) (fed : List ℕ) (given : List Line) (piece unread : List ℕ) (fits : ℕ) (beyond : Option ℕ) (count : ℕ) (rest : List ℕ) →
    r.refused ≡ None → r.ended ≡ false → r.beyond ≡ None → fits ≡ min (length piece) (left_of r) → unread ≡ r.unread ++ take fits piece → beyond ≡ slice_get piece fits → Passes false unread count rest →
    Reads r s strict limit fed given false → Reads (record r { taken = r.taken + length piece; unread = rest; beyond = beyond; count = r.count + count }) s strict limit (fed ++ piece) given false
reads_fed_on r s strict limit fed given piece unread fits beyond count rest accepted unended within least is next passes reads =
    reads_passed (record r { taken = r.taken + length piece; unread = unread; beyond = beyond }) s strict limit (fed ++ piece) given false count rest
    (reads_fed r s strict limit fed given piece unread fits beyond accepted within least is next reads)
    (subst (λ (e : Bool). Passes (e && is_none beyond) unread count rest) (sym unended) passes)

pub reads_end_on : (r : Reader) (s : System) (strict : Bool) (limit : ℕ) (fed : List ℕ) (given : List Line) (count : ℕ) (rest : List ℕ) → Passes (is_none r.beyond) r.unread count rest →
    Reads r s strict limit fed given false → Reads (record r { ended = true; unread = rest; count = r.count + count }) s strict limit fed given true
reads_end_on r s strict limit fed given count rest passes reads =
    reads_passed (record r { ended = true }) s strict limit fed given true count rest (reads_end r s strict limit fed given reads) passes

-- what the code tells of the byte beyond
pub none_told : (o : Option ℕ) (told : Bool) → is_some o ≡ not told → told ≡ is_none o
none_told None true is = refl
none_told None false is = absurd (cc)
none_told (Some b) true is = absurd (cc)
none_told (Some b) false is = refl

-- before the end bytes after the last line's end are no line, whatever is beyond the limit
pub unended_stops : (bytes : List ℕ) (ended : Bool) (beyond : Option ℕ) → ended ≡ false → StopsAtLine bytes false → StopsAtLine bytes (ended && is_none beyond)
unended_stops bytes ended beyond is stops = subst (λ (e : Bool). StopsAtLine bytes (e && is_none beyond)) (sym is) stops

-- the line that was taken is after the reader, and so are skipped lines that follow it
pub past_is : (old : Reader) (len skipped : ℕ) (l : Line) (rest seen : List ℕ) (last : Option ℕ) → seen ≡ seen_with old.last old.seen l → last ≡ Some l.time → Passes (last_counts old) (drop (len + 1) old.unread) skipped rest →
    IsPastLine old (record old { unread = rest; count = old.count + 1 + skipped; last = last; seen = seen }) len l
past_is old len skipped l rest seen last is becomes passes =
    record { skipped = skipped; rest = rest; passes = passes; is = λ k. record old { unread = rest; count = old.count + 1 + skipped; last = becomes k; seen = is k } }

-- a line that was taken is not kept
pub passes_fewer : (ended : Bool) (bytes : List ℕ) (count : ℕ) (rest : List ℕ) → Passes ended bytes count rest → length rest ≤ length bytes
passes_fewer ended bytes _ _ Passes.none = omega arith
passes_fewer ended bytes _ _ (Passes.more {count} {rest} len before has skips) =
    let le = passes_fewer ended bytes count rest before in
    omega (arith, length-drop (len + 1) rest)

pub line_fewer : (old new : Reader) (len : ℕ) (result : Result Next TraceFault) → 0 < length old.unread → TakesLine old new len result → IfLine result (length new.unread < length old.unread)
line_fewer old new len (Ok (next.Line l)) some takes =
    let past = takes.1 in
    let le = passes_fewer (last_counts old) (drop (len + 1) old.unread) past.skipped past.rest past.passes in
    let lt : length past.rest < length old.unread = omega (arith, length-drop (len + 1) old.unread) in
    subst (λ (r : Reader). length r.unread < length old.unread) (sym past.is) lt
line_fewer old new len (Ok next.More) some takes = tt
line_fewer old new len (Ok next.End) some takes = tt
line_fewer old new len (Err f) some takes = tt
