-- What the calls of a run over a trace add to what stands before them.
use Rattle.std.proofs.Common.{◌≡◌, ℕ, Bool, true, false, ◌&&◌, List, [], ◌∷◌, ◌++◌, refl, sym, ◌∙◌, ap, subst, append_assoc}
use Rattle.std.proofs.lemmas.Bool.{true≢false}
use Rattle.std.proofs.lemmas.List.{append-nil}
use Rattle.flat_core.specs.System.{System}
use Rattle.monitor_run.specs.inner.State as engine
use Rattle.trace_monitor.specs.Counted.{HasCounted}
use Rattle.trace_monitor.specs.declared.ending.RunEnding.{RunEnding}
use Rattle.trace_monitor.specs.declared.ending.RunEnding.TheVariants as run
use Rattle.trace_monitor.specs.declared.options.Options.{Options}
use Rattle.trace_monitor.specs.Due.{IsDue}
use Rattle.trace_monitor.specs.Ending.{GoesOn}
use Rattle.trace_monitor.specs.Next.{EndsBy}
use Rattle.tsl_world.specs.declared.outside.Slot.TheVariants.{Trace}
use Rattle.tsl_world.specs.declared.outside.Channel.TheVariants.{Out}
use Rattle.tsl_world.specs.declared.outside.Did.{Did}
use Rattle.tsl_world.specs.declared.outside.Did.TheVariants.{NotTook, Took}
use Rattle.tsl_world.specs.Journal.{given, taken, ended, AtReads, IsGift, IsRead, Each}
use Rattle.tsl_world.proofs.Journals.{given-append, taken-append}
use Rattle.tsl_world.proofs.Places.{at_more, at_none, at_one}
use Rattle.tsl_world.proofs.Untouched.{gifts_read_none, taken_before}
use Rattle.trace_run.specs.Before.{Before}
use Rattle.trace_run.specs.Effects.{EndsWhere, MayRead, WatchEnds, WatchedAfter}

-- an ending has its cause where the end that was read is told
pub ends_where : (s : System) (o : Options) (bytes : List ℕ) (tells_end read : Bool) (how : RunEnding) → (tells_end && read) ≡ read → EndsBy s o bytes read how → EndsWhere s o bytes tells_end read how
ends_where s o bytes true read how told cause = cause
ends_where s o bytes false read run.Done told cause = absurd (true≢false (sym cause.0 ∙ sym told))
ends_where s o bytes false read (run.Trace fault) told cause = subst (λ (e : Bool). EndsBy s o bytes e (run.Trace fault)) (sym told) cause
ends_where s o bytes false read (run.Fault time kind place) told cause = subst (λ (e : Bool). EndsBy s o bytes e (run.Fault time kind place)) (sym told) cause
ends_where s o bytes false read (run.Limit count time) told cause = subst (λ (e : Bool). EndsBy s o bytes e (run.Limit count time)) (sym told) cause

-- what was taken with one read more
pub taken_more : (part : List Did) (piece : List ℕ) → taken Trace (part ++ Took Trace piece ∷ []) ≡ taken Trace part ++ piece
taken_more part piece = taken-append Trace part (Took Trace piece ∷ []) ∙ ap (λ (l : List ℕ). taken Trace part ++ l) (append-nil piece)

module _ (s : System) (b : Before) where
  -- with what these calls add all bytes of the trace are these, and all text is this
  pub record Added (part : List Did) (bytes text : List ℕ) : Type 0 where
    pub bytes_are : b.bytes ++ taken Trace part ≡ bytes
    pub text_is : b.text ++ given Out part ≡ text
    pub reads : AtReads Trace (MayRead s b) part

  -- no call adds nothing
  pub none_added : Added [] b.bytes b.text
  none_added = record { bytes_are = append-nil b.bytes; text_is = append-nil b.text; reads = at_none (IsRead Trace) (MayRead s b) }

  -- the trace may be read where all that is due was written, and nothing ends the run
  may_read : (part : List Did) (bytes text : List ℕ) → Added part bytes text → IsDue s b.options bytes false text → GoesOn s b.options bytes → MayRead s b part
  may_read part bytes text added due goes_on = record {
    due = subst (λ (l : List ℕ). IsDue s b.options l false (b.text ++ given Out part)) (sym added.bytes_are) (subst (λ (l : List ℕ). IsDue s b.options bytes false l) (sym added.text_is) due);
    goes_on = subst (λ (l : List ℕ). GoesOn s b.options l) (sym added.bytes_are) goes_on;
  }

  -- one read more
  pub read_added : (part : List Did) (bytes text piece : List ℕ) → Added part bytes text → IsDue s b.options bytes false text → GoesOn s b.options bytes → Added (part ++ Took Trace piece ∷ []) (bytes ++ piece) text
  read_added part bytes text piece added due goes_on = record {
    bytes_are =
        ap (λ (l : List ℕ). b.bytes ++ l) (taken_more part piece)
        ∙ sym (append_assoc b.bytes (taken Trace part) piece)
        ∙ ap (λ (l : List ℕ). l ++ piece) added.bytes_are;
    text_is = ap (λ (l : List ℕ). b.text ++ l) (given-append Out part (Took Trace piece ∷ []) ∙ append-nil (given Out part)) ∙ added.text_is;
    reads = at_one (IsRead Trace) (MayRead s b) part (Took Trace piece) added.reads (may_read part bytes text added due goes_on);
  }

  -- one read more that failed
  pub failed_added : (part : List Did) (bytes text : List ℕ) → Added part bytes text → IsDue s b.options bytes false text → GoesOn s b.options bytes → Added (part ++ NotTook Trace ∷ []) bytes text
  failed_added part bytes text added due goes_on = record {
    bytes_are = ap (λ (l : List ℕ). b.bytes ++ l) (taken-append Trace part (NotTook Trace ∷ []) ∙ append-nil (taken Trace part)) ∙ added.bytes_are;
    text_is = ap (λ (l : List ℕ). b.text ++ l) (given-append Out part (NotTook Trace ∷ []) ∙ append-nil (given Out part)) ∙ added.text_is;
    reads = at_one (IsRead Trace) (MayRead s b) part (NotTook Trace) added.reads (may_read part bytes text added due goes_on);
  }

  -- writes to Out more
  pub gifts_added : (part more : List Did) (bytes text : List ℕ) → Added part bytes text → Each (IsGift Out) more → Added (part ++ more) bytes (text ++ given Out more)
  gifts_added part more bytes text added gifts = let none = gifts_read_none Out Trace more gifts in record {
    bytes_are = ap (λ (l : List ℕ). b.bytes ++ l) (taken_before Trace part more none) ∙ added.bytes_are;
    text_is =
        ap (λ (l : List ℕ). b.text ++ l) (given-append Out part more)
        ∙ sym (append_assoc b.text (given Out part) (given Out more))
        ∙ ap (λ (l : List ℕ). l ++ given Out more) added.text_is;
    reads = at_more Trace (MayRead s b) part more added.reads none;
  }

  module _ (tells_end : Bool) (part : List Did) (bytes text : List ℕ) (e : Bool) (added : Added part bytes text) (told : (tells_end && ended Trace part) ≡ e) where
    -- however it stops: what was written begins what is due
    pub stopped : (more : List ℕ) → IsDue s b.options bytes e (text ++ more) → WatchedAfter s b tells_end part
    stopped more due = record {
      reads = added.reads;
      partly = record {
        text = given Out part ++ more;
        due = subst (λ (l : List ℕ). IsDue s b.options l (tells_end && ended Trace part) (b.text ++ (given Out part ++ more))) (sym added.bytes_are)
            (subst (λ (x : Bool). IsDue s b.options bytes x (b.text ++ (given Out part ++ more))) (sym told)
            (subst (λ (l : List ℕ). IsDue s b.options bytes e l) (sym (sym (append_assoc b.text (given Out part) more) ∙ ap (λ (l : List ℕ). l ++ more) added.text_is)) due));
        begins = record { rest = more; is = refl };
      };
    }

    -- where all that is due was written
    pub stopped_between : IsDue s b.options bytes e text → WatchedAfter s b tells_end part
    stopped_between due = stopped [] (subst (λ (l : List ℕ). IsDue s b.options bytes e l) (sym (append-nil text)) due)

    -- at an ending
    pub ends : (state : engine.State) (how : RunEnding) → IsDue s b.options bytes e text → EndsWhere s b.options bytes tells_end (ended Trace part) how → HasCounted s b.options bytes e state how
        → WatchEnds s b tells_end state how part
    ends state how due cause counted = record {
      due = subst (λ (l : List ℕ). IsDue s b.options l (tells_end && ended Trace part) (b.text ++ given Out part)) (sym added.bytes_are)
          (subst (λ (x : Bool). IsDue s b.options bytes x (b.text ++ given Out part)) (sym told) (subst (λ (l : List ℕ). IsDue s b.options bytes e l) (sym added.text_is) due));
      cause = subst (λ (l : List ℕ). EndsWhere s b.options l tells_end (ended Trace part) how) (sym added.bytes_are) cause;
      counted = subst (λ (l : List ℕ). HasCounted s b.options l (tells_end && ended Trace part) state how) (sym added.bytes_are)
          (subst (λ (x : Bool). HasCounted s b.options bytes x state how) (sym told) counted);
    }
