-- A run over a trace, by what its monitor stands for and what the monitor makes of each piece.
use Rattle.std.proofs.Common.{◌≡◌, ◌⊎◌, inl, inr, ℕ, ◌+◌, ◌≤◌, Bool, true, false, ◌&&◌, List, [], ◌∷◌, ◌++◌, length, refl, sym, ◌∙◌, ap, subst, append_assoc, arith, None, Option, Some}
use Rattle.std.proofs.lemmas.Bool.{true≢false}
use Rattle.std.proofs.lemmas.List.{append-nil, length-append}
use Rattle.flat_core.specs.System.{System}
use Rattle.compiled_meaning.specs.inner.Ready.{IsReady}
use Rattle.trace_monitor.specs.Counted.{HasCounted}
use Rattle.trace_monitor.specs.declared.ending.RunEnding.{RunEnding}
use Rattle.trace_monitor.specs.declared.ending.RunEnding.TheVariants as run
use Rattle.trace_monitor.specs.declared.options.Options.{Options}
use Rattle.trace_monitor.specs.Due.{IsDue}
use Rattle.trace_monitor.specs.Ending.{GoesOn}
use Rattle.trace_monitor.specs.Next.{EndsBy, IsNext, is_nothing}
use Rattle.trace_monitor.specs.inner.Kept.{Kept}
use Rattle.trace_monitor.specs.inner.State.{State}
use Rattle.trace_monitor.specs.inner.Waits.{Waits}
use Rattle.trace_reader.specs.declared.limits.TheConstants.{MOST_PIECE_BYTES}
use Rattle.tsl_world.specs.declared.outside.Slot.TheVariants.{Trace}
use Rattle.tsl_world.specs.declared.outside.Channel.TheVariants.{Out}
use Rattle.tsl_world.specs.declared.outside.Did.{Did}
use Rattle.tsl_world.specs.declared.outside.Did.TheVariants.{NotTook, Took}
use Rattle.tsl_world.specs.Journal.{given, taken, ended, Each, IsDone}
use Rattle.tsl_world.specs.Begins.{Begins}
use Rattle.tsl_world.proofs.Untouched.{gifts_read_none, taken_before}
use Rattle.trace_run.specs.Before.{Before}
use Rattle.trace_run.specs.Effects.{EndsWhere, HasWatched, KeepsAll, StandsAfter, Writes}
use Rattle.trace_run.specs.inner.Round.{Advanced, AreAlike, Broke, HasCountedAll, HasEnded, HasGone, IsRead, Stopped, Turned, cut_off, end_untold, lost, passed, unread, unwritten}
use Rattle.trace_run.proofs.Added.{Added, ends, ends_where, failed_added, gifts_added, none_added, read_added, stopped, stopped_between, taken_more}
use Rattle.trace_run.proofs.Dues.{due_more}
use Rattle.trace_run.proofs.Watching.{Stands, at_start, not_zero, read_failed, read_more, wrote, wrote_all}

-- by the system and the options of the monitor that the run began with
pub advanced_as : (s u : System) (o p : Options) (old new : State) (piece out : List ℕ) (next : Option RunEnding) → s ≡ u → o ≡ p → Advanced s o old new piece out next → Advanced u p old new piece out next
advanced_as s u o p old new piece out next same alike a =
    subst (λ (x : Options). Advanced u x old new piece out next) alike (subst (λ (x : System). Advanced x o old new piece out next) same a)

pub counted_as : (s u : System) (o p : Options) (m : State) → s ≡ u → o ≡ p → HasCountedAll s o m → HasCountedAll u p m
counted_as s u o p m same alike a = subst (λ (x : Options). HasCountedAll u x m) alike (subst (λ (x : System). HasCountedAll x o m) same a)

-- A monitor that may be given a piece has taken no more than the one that the run began with may.
pub few_taken : (first m : State) → m.options ≡ first.options → Waits m → m.reader.taken ≤ first.options.bytes
few_taken first m same waits =
    let within = waits.within in
    let limit = waits.bytes_limit in
    let alike : m.options.bytes ≡ first.options.bytes = ap (λ (o : Options). o.bytes) same in
    omega arith

-- A run began with a monitor, which now is m.
module _ (first m : State) where
  -- for what it stands after these calls, and after what stands before them
  pub record Follows (b : Before) (part : List Did) : Type 0 where
    pub fed : List ℕ
    pub text : List ℕ
    pub added : Added first.system b part fed text
    pub kept : Kept m fed
    pub due : IsDue first.system b.options fed false text
    pub goes_on : GoesOn first.system b.options fed

  -- the calls so far: the run goes on, and the monitor has taken all that was read
  pub record Goes (part : List Did) : Type 0 where
    pub stands : Stands first.reader.taken first.options.bytes part false
    pub taken_is : m.reader.taken ≡ first.reader.taken + length (taken Trace part)
    pub follows : (b : Before) → StandsAfter first b → Follows b part

  -- the same where a piece was read that the monitor has not taken
  pub record FollowsRead (b : Before) (piece : List ℕ) (part : List Did) : Type 0 where
    pub fed : List ℕ
    pub text : List ℕ
    pub added : Added first.system b part (fed ++ piece) text
    pub kept : Kept m fed
    pub due : IsDue first.system b.options fed false text
    pub goes_on : GoesOn first.system b.options fed

  pub record HasRead (piece : List ℕ) (part : List Did) : Type 0 where
    pub stands : Stands first.reader.taken first.options.bytes part (is_nothing piece)
    pub taken_is : m.reader.taken + length piece ≡ first.reader.taken + length (taken Trace part)
    pub follows : (b : Before) → StandsAfter first b → FollowsRead b piece part

  module _ (few : m.reader.taken ≤ first.options.bytes) (part : List Did) (goes : Goes part) where
    few_now : first.reader.taken + length (taken Trace part) ≤ first.options.bytes
    few_now = subst (λ (n : ℕ). n ≤ first.options.bytes) goes.taken_is few

    read_one : (piece : List ℕ) → length piece ≤ MOST_PIECE_BYTES → HasRead piece (part ++ Took Trace piece ∷ [])
    read_one piece short = record {
      stands = read_more first.reader.taken first.options.bytes part goes.stands few_now piece short;
      taken_is =
          let was = goes.taken_is in
          let all = ap length (taken_more part piece) ∙ length-append (taken Trace part) piece in
          omega arith;
      follows = λ b before. let f = goes.follows b before in record {
        fed = f.fed;
        text = f.text;
        added = read_added first.system b part f.fed f.text piece f.added f.due f.goes_on;
        kept = f.kept;
        due = f.due;
        goes_on = f.goes_on;
      };
    }

-- before any call
pub at_first : (m : State) → Goes m m []
at_first m = record {
  stands = at_start m.reader.taken m.options.bytes;
  taken_is = omega arith;
  follows = λ b before. record {
    fed = b.bytes;
    text = b.text;
    added = none_added m.system b;
    kept = before.kept;
    due = subst (λ (o : Options). IsDue m.system o b.bytes false b.text) (sym before.options) before.due;
    goes_on = subst (λ (o : Options). GoesOn m.system o b.bytes) (sym before.options) before.goes_on;
  };
}

both_false : (x : Bool) → (x && false) ≡ false
both_false true = refl
both_false false = refl

module _ (first m : State) (tells_end : Bool) where
  -- a read that failed
  read_broken : m.reader.taken ≤ first.options.bytes → (part : List Did) → Goes first m part → HasGone first tells_end (part ++ NotTook Trace ∷ [])
  read_broken few part goes = let stood = read_failed first.reader.taken first.options.bytes part goes.stands (few_now first m few part goes) in record {
    work = stood.work;
    ends = stood.ends;
    stops = stood.stops;
    within = stood.within;
    after = λ b before.
        let f = goes.follows b before in
        stopped_between first.system b tells_end (part ++ NotTook Trace ∷ []) f.fed f.text false (failed_added first.system b part f.fed f.text f.added f.due f.goes_on)
        (ap (λ (x : Bool). tells_end && x) stood.end_is ∙ both_false tells_end) f.due;
  }

  -- a piece that the monitor did not take, out of memory
  lost_piece : IsReady first.system → (piece : List ℕ) (part : List Did) → HasRead first m piece part → HasGone first tells_end part
  lost_piece ready piece part read = let stood = read.stands.stood in record {
    work = stood.work;
    ends = stood.ends;
    stops = stood.stops;
    within = stood.within;
    after = λ b before.
        let f = read.follows b before in
        let e = tells_end && ended Trace part in
        let adds = due_more first.system b.options ready f.fed piece f.text e f.due in
        stopped first.system b tells_end part (f.fed ++ piece) f.text e f.added refl adds.more adds.due;
  }

  -- the end of the trace was read, and is not told
  module _ (untold : tells_end ≡ false) (piece : List ℕ) (none : piece ≡ []) (part : List Did) (read : HasRead first m piece part) where
    nothing_more : (fed : List ℕ) → fed ≡ fed ++ piece
    nothing_more fed = sym (ap (λ (l : List ℕ). fed ++ l) none ∙ append-nil fed)

    not_told : (tells_end && ended Trace part) ≡ false
    not_told = ap (λ (x : Bool). x && ended Trace part) untold

    was_read : ended Trace part ≡ true
    was_read = read.stands.stood.end_is ∙ ap is_nothing none

    untold_watched : HasGone first tells_end part
    untold_watched = record {
      work = read.stands.stood.work;
      ends = read.stands.stood.ends;
      stops = read.stands.stood.stops;
      within = read.stands.stood.within;
      after = λ b before.
          let f = read.follows b before in
          stopped_between first.system b tells_end part (f.fed ++ piece) f.text false f.added not_told
          (subst (λ (l : List ℕ). IsDue first.system b.options l false f.text) (nothing_more f.fed) f.due);
    }

    untold_ends : HasCountedAll first.system first.options m → HasWatched first.system (StandsAfter first) tells_end m.engine run.Done part
    untold_ends counted = record {
      done = read.stands.done;
      read = λ is. was_read;
      after = λ b before.
          let f = read.follows b before in
          let has = counted_as first.system first.system first.options b.options m refl (sym before.options) counted f.fed f.kept in
          ends first.system b tells_end part (f.fed ++ piece) f.text false f.added not_told m.engine run.Done
          (subst (λ (l : List ℕ). IsDue first.system b.options l false f.text) (nothing_more f.fed) f.due)
          (subst (λ (x : Bool). EndsWhere first.system b.options (f.fed ++ piece) x (ended Trace part) run.Done) (sym untold) (was_read, subst (λ (l : List ℕ). GoesOn first.system b.options l) (nothing_more f.fed) f.goes_on))
          (subst (λ (l : List ℕ). HasCounted first.system b.options l false m.engine run.Done) (nothing_more f.fed) has);
    }

    untold_kept : KeepsAll first m tells_end run.Done part
    untold_kept not_at_end done b before =
        let f = read.follows b before in
        subst (λ (l : List ℕ). Kept m l) (nothing_more f.fed ∙ sym f.added.bytes_are) f.kept

-- where the end is read, a piece is given to the monitor as the end only if this is told
pub told_by : (count : ℕ) (tells_end : Bool) (piece : List ℕ) → length piece ≡ count → ((count ≡ 0) × (tells_end ≡ true)) ⊎ (count ≡ 0 → ⊥) → (tells_end && is_nothing piece) ≡ is_nothing piece
told_by count tells_end piece long (inl (none, tells)) = ap (λ (x : Bool). x && is_nothing piece) tells
told_by count tells_end [] long (inr some) = absurd (some (sym long))
told_by count tells_end (x ∷ piece) long (inr some) = ap (λ (e : Bool). tells_end && e) (sym (not_zero (length piece))) ∙ both_false tells_end ∙ not_zero (length piece)

-- a run to which the end is not told is not done
pub no_ending : (tells_end : Bool) (piece : List ℕ) → tells_end ≡ false → (tells_end && is_nothing piece) ≡ is_nothing piece → is_nothing piece ≡ true → ⊥
no_ending tells_end piece untold told done = true≢false (sym done ∙ sym told ∙ ap (λ (x : Bool). x && is_nothing piece) untold)

-- a piece that is something has a byte more
pub takes_more : (count taken all : ℕ) (piece : List ℕ) → is_nothing piece ≡ false → all ≡ taken + length piece → count ≤ taken → count + 1 ≤ all
takes_more count taken all [] some more le = absurd (true≢false some)
takes_more count taken all (x ∷ piece) some more le = omega arith

-- The monitor has taken the piece, and the text that is due is written.
module _ (first m new : State) (tells_end : Bool) (piece out : List ℕ) (next : Option RunEnding) (told : (tells_end && is_nothing piece) ≡ is_nothing piece)
    (advanced : Advanced first.system first.options m new piece out next) (p q : List Did) (read : HasRead first m piece p) where
  adv : (b : Before) → StandsAfter first b → Advanced first.system b.options m new piece out next
  adv b before = advanced_as first.system first.system first.options b.options m new piece out next refl (sym before.options) advanced

  told_so : ended Trace (p ++ q) ≡ is_nothing piece → (tells_end && ended Trace (p ++ q)) ≡ is_nothing piece
  told_so end_is = ap (λ (x : Bool). tells_end && x) end_is ∙ told

  -- however far the writing came
  wrote_some : Writes Out q → Begins (given Out q) out → HasGone first tells_end (p ++ q)
  wrote_some writes some = let stood = wrote first.reader.taken first.options.bytes p q (is_nothing piece) read.stands writes in record {
    work = stood.work;
    ends = stood.ends;
    stops = stood.stops;
    within = stood.within;
    after = λ b before.
        let f = read.follows b before in
        stopped first.system b tells_end (p ++ q) (f.fed ++ piece) (f.text ++ given Out q) (is_nothing piece) (gifts_added first.system b p q (f.fed ++ piece) f.text f.added writes.gifts)
        (told_so stood.end_is) some.rest
        (subst (λ (l : List ℕ). IsDue first.system b.options (f.fed ++ piece) (is_nothing piece) l)
        (ap (λ (l : List ℕ). f.text ++ l) some.is ∙ sym (append_assoc f.text (given Out q) some.rest)) ((adv b before).due f.fed f.text f.kept f.due));
  }

  module _ (writes : Writes Out q) (done : Each IsDone q) (whole : given Out q ≡ out) where
    stands_on : Stands first.reader.taken first.options.bytes (p ++ q) (is_nothing piece)
    stands_on = wrote_all first.reader.taken first.options.bytes p q (is_nothing piece) read.stands writes done

    added_on : (b : Before) (before : StandsAfter first b) → Added first.system b (p ++ q) ((read.follows b before).fed ++ piece) ((read.follows b before).text ++ out)
    added_on b before =
        let f = read.follows b before in
        subst (λ (l : List ℕ). Added first.system b (p ++ q) (f.fed ++ piece) (f.text ++ l)) whole (gifts_added first.system b p q (f.fed ++ piece) f.text f.added writes.gifts)

    -- the run goes on
    goes_further : is_nothing piece ≡ false → next ≡ None → new.reader.taken ≡ m.reader.taken + length piece → Goes first new (p ++ q)
    goes_further some is takes = record {
      stands = subst (λ (e : Bool). Stands first.reader.taken first.options.bytes (p ++ q) e) some stands_on;
      taken_is =
          let was = read.taken_is in
          let all = ap length (taken_before Trace p q (gifts_read_none Out Trace q writes.gifts)) in
          omega arith;
      follows = λ b before.
          let f = read.follows b before in
          let a = adv b before in
          let stands : IsNext first.system b.options (f.fed ++ piece) (is_nothing piece) None = subst (λ (x : Option RunEnding). IsNext first.system b.options (f.fed ++ piece) (is_nothing piece) x) is (a.stands f.fed f.kept) in
          record {
            fed = f.fed ++ piece;
            text = f.text ++ out;
            added = added_on b before;
            kept = a.kept is f.fed f.kept;
            due = subst (λ (e : Bool). IsDue first.system b.options (f.fed ++ piece) e (f.text ++ out)) stands.0 (a.due f.fed f.text f.kept f.due);
            goes_on = stands.1;
          };
    }

    -- the run ends
    module _ (how : RunEnding) (is : next ≡ Some how) (at_end : how ≡ run.Done → is_nothing piece ≡ true) where
      told_ends : HasWatched first.system (StandsAfter first) tells_end new.engine how (p ++ q)
      told_ends = record {
        done = stands_on.done;
        read = λ done. stands_on.stood.end_is ∙ at_end done;
        after = λ b before.
            let f = read.follows b before in
            let a = adv b before in
            let cause : EndsBy first.system b.options (f.fed ++ piece) (is_nothing piece) how = subst (λ (x : Option RunEnding). IsNext first.system b.options (f.fed ++ piece) (is_nothing piece) x) is (a.stands f.fed f.kept) in
            ends first.system b tells_end (p ++ q) (f.fed ++ piece) (f.text ++ out) (is_nothing piece) (added_on b before) (told_so stands_on.stood.end_is) new.engine how (a.due f.fed f.text f.kept f.due)
            (subst (λ (e : Bool). EndsWhere first.system b.options (f.fed ++ piece) tells_end e how) (sym stands_on.stood.end_is) (ends_where first.system b.options (f.fed ++ piece) tells_end (is_nothing piece) how told cause))
            (a.counted how is f.fed f.kept);
      }

      told_kept : KeepsAll first new tells_end how (p ++ q)
      told_kept untold done b before = absurd (no_ending tells_end piece untold told (at_end done))

-- one monitor after another
pub alike_on : (one two three : State) → AreAlike one two → AreAlike two three → AreAlike one three
alike_on one two three first more = record {
  system = more.system ∙ first.system;
  options = more.options ∙ first.options;
  engine = more.engine ∙ first.engine;
  set = more.set ∙ first.set;
  order = more.order ∙ first.order;
}

-- one round more
module _ (first m : State) (alike : AreAlike first m) (waits : Waits m) (tells_end : Bool) (p : List Did) (goes : Goes first m p) where
  few : m.reader.taken ≤ first.options.bytes
  few = few_taken first m alike.options waits

  by_first : (new : State) (piece out : List ℕ) (next : Option RunEnding) → Advanced m.system m.options m new piece out next → Advanced first.system first.options m new piece out next
  by_first new piece out next advanced = advanced_as m.system first.system m.options first.options m new piece out next alike.system alike.options advanced

  read_then : (piece : List ℕ) → length piece ≤ MOST_PIECE_BYTES → HasRead first m piece (p ++ Took Trace piece ∷ [])
  read_then piece short = read_one first m few p goes piece short

  -- which is cut short
  gone_by : IsReady first.system → (piece : List ℕ) (part : List Did) → IsRead tells_end piece → Stopped m piece part → HasGone first tells_end ((p ++ Took Trace piece ∷ []) ++ part)
  gone_by ready piece _ read lost =
      subst (λ (l : List Did). HasGone first tells_end l) (sym (append-nil (p ++ Took Trace piece ∷ []))) (lost_piece first m tells_end ready piece (p ++ Took Trace piece ∷ []) (read_then piece read.short))
  gone_by ready piece _ read (unwritten new next out part advanced writes some) =
      wrote_some first m new tells_end piece out next read.told (by_first new piece out next advanced) (p ++ Took Trace piece ∷ []) part (read_then piece read.short) writes some

  pub gone_round : IsReady first.system → (q : List Did) → Broke m tells_end q → HasGone first tells_end (p ++ q)
  gone_round ready _ unread = read_broken first m tells_end few p goes
  gone_round ready _ (cut_off piece part read how) = subst (λ (l : List Did). HasGone first tells_end l) (append_assoc p (Took Trace piece ∷ []) part) (gone_by ready piece part read how)

  -- after which the run goes on
  pub goes_round : (new : State) (q : List Did) → Turned m new tells_end None q → Goes first new (p ++ q)
  goes_round new _ (end_untold untold same done counted) = absurd (cc)
  goes_round new _ (passed piece part read has) =
      let again = has.has_taken.goes_on refl in
      subst (λ (l : List Did). Goes first new l) (append_assoc p (Took Trace piece ∷ []) part)
      (goes_further first m new tells_end piece has.out None read.told (by_first new piece has.out None has.advanced) (p ++ Took Trace piece ∷ []) part (read_then piece read.short) has.writes has.done has.whole
      again.some refl again.taken)

  -- after which it ends
  ended_untold : tells_end ≡ false → HasCountedAll m.system m.options m → HasEnded first m tells_end run.Done (p ++ Took Trace [] ∷ [])
  ended_untold not_told counted =
      let part = p ++ Took Trace [] ∷ [] in
      let read = read_then [] (omega arith) in
      record {
        gone = untold_watched first m tells_end not_told [] refl part read;
        ends = untold_ends first m tells_end not_told [] refl part read (counted_as m.system first.system m.options first.options m alike.system alike.options counted);
        keeps = untold_kept first m tells_end not_told [] refl part read;
      }

  pub ended_round : (new : State) (how : RunEnding) (q : List Did) → Turned m new tells_end (Some how) q → HasEnded first new tells_end how (p ++ q)
  ended_round new how _ (end_untold not_told same done counted) =
      let is : how ≡ run.Done = cc in
      subst (λ (x : State). HasEnded first x tells_end how (p ++ Took Trace [] ∷ [])) (sym same)
      (subst (λ (h : RunEnding). HasEnded first m tells_end h (p ++ Took Trace [] ∷ [])) (sym is) (ended_untold not_told counted))
  ended_round new how _ (passed piece part read has) =
      let q = p ++ Took Trace piece ∷ [] in
      let next = Some how in
      let advanced = by_first new piece has.out next has.advanced in
      let first_read = read_then piece read.short in
      let at_end : how ≡ run.Done → is_nothing piece ≡ true = λ done. has.has_taken.at_end (ap Some done) in
      subst (λ (l : List Did). HasEnded first new tells_end how l) (append_assoc p (Took Trace piece ∷ []) part) record {
        gone = wrote_some first m new tells_end piece has.out next read.told advanced q part first_read has.writes record { rest = []; is = sym (append-nil (given Out part) ∙ has.whole) };
        ends = told_ends first m new tells_end piece has.out next read.told advanced q part first_read has.writes has.done has.whole how refl at_end;
        keeps = told_kept first m new tells_end piece has.out next read.told advanced q part first_read has.writes has.done has.whole how refl at_end;
      }
