-- How the calls of a run over a trace go on, a read or a write at a time.
use Rattle.std.proofs.Common.{◌≡◌, ℕ, suc, ◌+◌, ◌≤◌, Bool, true, false, ◌||◌, List, [], ◌∷◌, ◌++◌, length, refl, ◌∙◌, ap, arith, nat_eq}
use Rattle.std.proofs.lemmas.Bool.Decides.{nat_tests}
use Rattle.tsl_world.specs.declared.outside.Slot.TheVariants.{Trace}
use Rattle.tsl_world.specs.declared.outside.Channel.TheVariants.{Out}
use Rattle.tsl_world.specs.declared.outside.Did.{Did}
use Rattle.tsl_world.specs.declared.outside.Did.TheVariants.{Opened, Created, Took, Gave, NotOpened, NotCreated, NotTook, NotGave}
use Rattle.tsl_world.specs.declared.outside.Channel.{Channel}
use Rattle.tsl_world.specs.declared.outside.Channel.TheVariants as channel
use Rattle.tsl_world.specs.Journal.{ended, same_channel, taken, IsAny, IsDone, IsGift, IsRead, Each, StopsAtEnd, StopsAtFailure}
use Rattle.tsl_world.proofs.Untouched.{gifts_read_none, ended_before}
use Rattle.tsl_world.proofs.Places.{at_each_join, at_none, at_more, at_one, stops_one}
use Rattle.tsl_world.proofs.Journals.{ended-append, Each-append}
use Rattle.trace_monitor.specs.Next.{is_nothing}
use Rattle.trace_run.specs.Effects.{IsTraceWork, ReadsWithin, Writes}
use Rattle.trace_reader.specs.declared.limits.TheConstants.{MOST_PIECE_BYTES}

is_out : (at : Channel) → same_channel at Out ≡ true → at ≡ Out
is_out channel.Out same = refl
is_out channel.Err same = absurd (cc)
is_out channel.State same = absurd (cc)
is_out channel.Code same = absurd (cc)

gifts_work : (more : List Did) → Each (IsGift Out) more → Each IsTraceWork more
gifts_work [] gifts = tt
gifts_work (Gave at bytes ∷ more) gifts = (is_out at gifts.0, gifts_work more gifts.1)
gifts_work (NotGave at ∷ more) gifts = (is_out at gifts.0, gifts_work more gifts.1)
gifts_work (Took from bytes ∷ more) gifts = absurd gifts.0
gifts_work (NotTook from ∷ more) gifts = absurd gifts.0
gifts_work (Opened a b ∷ more) gifts = absurd gifts.0
gifts_work (Created a b ∷ more) gifts = absurd gifts.0
gifts_work (NotOpened a b ∷ more) gifts = absurd gifts.0
gifts_work (NotCreated a b ∷ more) gifts = absurd gifts.0

pub not_zero : (n : ℕ) → false ≡ nat_eq (suc n) 0
not_zero n = grind (arith, nat_tests)

took_end : (part : List Did) (piece : List ℕ) → ended Trace part ≡ false → ended Trace (part ++ Took Trace piece ∷ []) ≡ is_nothing piece
took_end part [] is = ended-append Trace part (Took Trace [] ∷ []) ∙ ap (λ (b : Bool). b || true) is
took_end part (x ∷ piece) is = ended-append Trace part (Took Trace (x ∷ piece) ∷ []) ∙ ap (λ (b : Bool). b || false) is ∙ not_zero (length piece)

-- Of the trace so many bytes were taken before, and no more than the limit are with them.
module _ (earlier limit : ℕ) where
  abbrev AreWithin : List Did → Type 0
  AreWithin before = earlier + length (taken Trace before) ≤ limit

  -- the calls so far, and whether the end of the trace was read
  pub record Stood (part : List Did) (is_end : Bool) : Type 0 where
    pub end_is : ended Trace part ≡ is_end
    pub work : Each IsTraceWork part
    pub ends : StopsAtEnd Trace part
    pub stops : StopsAtFailure part
    pub within : ReadsWithin earlier limit part

  -- none of them failed
  pub record Stands (part : List Did) (is_end : Bool) : Type 0 where
    pub stood : Stood part is_end
    pub done : Each IsDone part

  -- before any call
  pub at_start : Stands [] false
  at_start = record {
    stood = record {
      end_is = refl;
      work = tt;
      ends = at_none (IsRead Trace) (λ before. ended Trace before ≡ false);
      stops = at_none IsAny (Each IsDone);
      within = at_none (IsRead Trace) AreWithin;
    };
    done = tt;
  }

  -- writes to Out more
  pub wrote : (part more : List Did) (e : Bool) → Stands part e → Writes Out more → Stood (part ++ more) e
  wrote part more e stands w = let none = gifts_read_none Out Trace more w.gifts in record {
    end_is = ended_before Trace part more none ∙ stands.stood.end_is;
    work = Each-append IsTraceWork part more stands.stood.work (gifts_work more w.gifts);
    ends = at_more Trace (λ before. ended Trace before ≡ false) part more stands.stood.ends none;
    stops = at_each_join IsDone part more stands.done w.stops;
    within = at_more Trace AreWithin part more stands.stood.within none;
  }

  -- of which none failed
  pub wrote_all : (part more : List Did) (e : Bool) → Stands part e → Writes Out more → Each IsDone more → Stands (part ++ more) e
  wrote_all part more e stands w done = record { stood = wrote part more e stands w; done = Each-append IsDone part more stands.done done }

  -- one read more, where no more than the limit were taken
  module _ (part : List Did) (stands : Stands part false) (few : AreWithin part) where
    pub read_more : (piece : List ℕ) → length piece ≤ MOST_PIECE_BYTES → Stands (part ++ Took Trace piece ∷ []) (is_nothing piece)
    read_more piece short = record {
      stood = record {
        end_is = took_end part piece stands.stood.end_is;
        work = Each-append IsTraceWork part (Took Trace piece ∷ []) stands.stood.work ((refl, short), tt);
        ends = at_one (IsRead Trace) (λ before. ended Trace before ≡ false) part (Took Trace piece) stands.stood.ends stands.stood.end_is;
        stops = stops_one part (Took Trace piece) stands.done;
        within = at_one (IsRead Trace) AreWithin part (Took Trace piece) stands.stood.within few;
      };
      done = Each-append IsDone part (Took Trace piece ∷ []) stands.done (tt, tt);
    }

    -- one that failed
    pub read_failed : Stood (part ++ NotTook Trace ∷ []) false
    read_failed = record {
      end_is = ended-append Trace part (NotTook Trace ∷ []) ∙ ap (λ (b : Bool). b || false) stands.stood.end_is;
      work = Each-append IsTraceWork part (NotTook Trace ∷ []) stands.stood.work (refl, tt);
      ends = at_one (IsRead Trace) (λ before. ended Trace before ≡ false) part (NotTook Trace) stands.stood.ends stands.stood.end_is;
      stops = stops_one part (NotTook Trace) stands.done;
      within = at_one (IsRead Trace) AreWithin part (NotTook Trace) stands.stood.within few;
    }
