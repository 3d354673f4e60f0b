-- A reader and its state stand for the same bytes.
use Rattle.std.proofs.Common.{◌≡◌, ◌≤◌, ◌<◌, ◌^◌, ℕ, ◌+◌, ◌-◌, Bool, false, ◌&&◌, List, [], ◌++◌, length, take, Some, None, IfSome, refl, sym, ap, subst, ◌∙◌, arith, add-zero}
use Rattle.std.proofs.lemmas.Bool.{le-ltb}
use Rattle.std.proofs.lemmas.List.{append-nil, take_all}
use Rattle.std.specs.Prelude.{if◌then◌else◌, is_none, slice_get}
use Rattle.std.specs.Option.{option_or}
use Rattle.flat_core.specs.System.{System}
use Rattle.flat_core.specs.Line.{Line}
use Rattle.trace_reader.specs.declared.fault.TraceFault.TheVariants as fault
use Rattle.trace_reader.specs.declared.limits.TheConstants.{MOST_LINE_BYTES}
use Rattle.trace_reader.specs.declared.state.ReaderState.{ReaderState}
use Rattle.trace_reader.specs.Form.{is_long, split_once}
use Rattle.trace_reader.specs.Reading.{cut, first_line, read_on, unfinished}
use Rattle.trace_reader.specs.inner.Reader.{AwaitsMore, IsSound, Reader, last_counts, one_if}
use Rattle.trace_reader.specs.inner.Reads.{Reads, after, after_all}
use Rattle.trace_reader.specs.inner.Saved.{FitsReader, HasState, IsReaderAfter}
use Rattle.trace_reader.proofs.LawLemmas.{accepted_on}
use Rattle.trace_reader.proofs.PassedLemmas.{cut_after, cut_none, has_front}
use Rattle.trace_reader.proofs.SoundLemmas.{resumed}
use Rattle.trace_reader.proofs.StepLemmas.{at_rest}

-- What a reader keeps fits.
pub state_fits : (r : Reader) (st : ReaderState) → IsSound r → AwaitsMore r → HasState r st → IfSome st.last (λ t. t < 2 ^ 63) → FitsReader r.limit st
state_fits r st sound awaits has time =
    let within = sound.within awaits.within in
    let kept = sound.kept in
    let lines = sound.lines in
    let none : one_if r.ended ≡ 0 = ap one_if awaits.unended in
    let taken = has.taken in
    let count = has.lines in
    let size = ap length has.rest in
    let short = awaits.short in
    record {
      time = time;
      within = omega arith;
      lines = omega arith;
      rest = record {
        short = omega arith;
        one_line = subst (λ (bytes : List ℕ). split_once 10 bytes ≡ None) (sym has.rest) awaits.no_line;
        was_taken = omega arith;
      };
    }

-- where more is awaited, nothing is refused
none_after : (r : Reader) → AwaitsMore r → after_all r ≡ None
none_after r awaits =
    (λ k. unfinished (awaits.within k) (r.count + 1) r.unread)
    ∙ ap (λ long. if long then Some (fault.LineTooLong (r.count + 1)) else None) (ap is_long (add-zero (length r.unread)) ∙ le-ltb MOST_LINE_BYTES (length r.unread) awaits.short)

none_first : (r : Reader) → AwaitsMore r → first_line r.unread (last_counts r) ≡ None
none_first r awaits = (λ k. first_line r.unread (awaits.unended k && is_none r.beyond)) ∙ ap (λ o. option_or o None) awaits.no_line

-- What a reader keeps is the state after the bytes that it was fed.
pub state_after : (r : Reader) (st : ReaderState) → IsSound r → AwaitsMore r → HasState r st → (s : System) (strict : Bool) (limit : ℕ) (fed : List ℕ) (given : List Line) → Reads r s strict limit fed given false → IsReaderAfter s strict limit fed given st
state_after r st sound awaits has s strict limit fed given reads =
    let part = reads.passed refl in
    let within = sound.within awaits.within in
    let taken = reads.taken_is in
    let at_most = reads.limit_is in
    let few : length fed ≤ limit = omega arith in
    let all : fed ≡ part.past ++ r.unread = sym (take_all limit fed few) ∙ part.parts in
    let cuts : cut fed ≡ ((cut part.past).0 ++ [], r.unread) =
    ap cut all ∙ cut_after part.past r.unread part.whole ∙ ap (λ (c : List (List ℕ) × List ℕ). ((cut part.past).0 ++ c.0, c.1)) (cut_none r.unread awaits.no_line) in
    record {
      accepted = at_rest r s strict limit fed given false reads (none_first r awaits) ∙ ap (λ o. record { lines = given; refused = o }) (none_after r awaits);
      taken = has.taken ∙ reads.taken_is;
      whole = has.lines ∙ sym part.counted ∙ ap length (sym (append-nil (cut part.past).0)) ∙ ap (λ (c : List (List ℕ) × List ℕ). length c.0) (sym cuts);
      last = has.last ∙ reads.last;
      seen = λ i. has.seen i ∙ reads.seen i;
      rest = has.rest ∙ ap (λ (c : List (List ℕ) × List ℕ). c.1) (sym cuts);
    }

-- A reader that goes on from a state stands for the bytes that the state comes after.
pub resumed_reads : (s : System) (strict : Bool) (limit : ℕ) (st : ReaderState) → FitsReader limit st → (fed : List ℕ) (given : List Line) → IsReaderAfter s strict limit fed given st → Reads (resumed s strict limit st) s strict limit fed given false
resumed_reads s strict limit st fits fed given it =
    let within = fits.within in
    let taken = it.taken in
    let few : length fed ≤ limit = omega arith in
    let front = has_front fed in
    let left : limit - length fed ≡ limit - st.taken = omega arith in
    let number : length (cut fed).0 + 1 ≡ st.lines + 1 = ap (λ n. n + 1) (sym it.whole) in
    record {
      system = refl;
      strict_is = refl;
      limit_is = refl;
      taken_is = it.taken;
      ended_is = refl;
      last = it.last;
      seen = it.seen;
      passed = λ unended. record {
        past = front.front;
        parts = take_all limit fed few ∙ front.parts ∙ ap (λ rest. front.front ++ rest) (sym it.rest);
        whole = front.whole;
        counted = front.counted ∙ sym it.whole;
      };
      goes_on = λ more e may.
          accepted_on s strict limit fed more e given few it.accepted
          ∙ (λ k. after given (read_on s strict given (number k) (sym it.rest k ++ take (left k) more) (slice_get more (left k)) e));
      refused = λ f is. absurd (cc);
    }
