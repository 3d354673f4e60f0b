-- What a run shows and how it ends, after the line that tells it.
use Rattle.std.proofs.Common.{◌≡◌, ◌≢◌, ◌⊎◌, inl, inr, ℕ, Bool, false, List, [], ◌∷◌, ◌++◌, refl, sym, ◌∙◌, ap, subst, arith, Option, Some, None}
use Rattle.command_words.specs.declared.command.Command.{Command}
use Rattle.command_words.specs.declared.command.Command.TheVariants as command
use Rattle.command_words.specs.declared.command.Form.{Form}
use Rattle.command_words.specs.declared.command.Workload.{Workload}
use Rattle.sample_trace.specs.Trace.{trace_text}
use Rattle.compiled_meaning.specs.Compiled.{Compiles, IsRefusedBy}
use Rattle.trace_monitor.specs.declared.ending.RunEnding.{RunEnding}
use Rattle.trace_monitor.specs.declared.ending.RunEnding.TheVariants as run
use Rattle.tsl_world.specs.Begins.{Begins, BeginsStrictly}
use Rattle.tsl_world.specs.declared.outside.Did.{Did}
use Rattle.tsl_world.specs.declared.outside.Did.TheVariants.{Opened}
use Rattle.tsl_world.specs.declared.outside.Slot.{Slot}
use Rattle.tsl_world.specs.declared.outside.Slot.TheVariants.{Spec, Trace}
use Rattle.tsl_world.specs.declared.outside.Channel.{Channel}
use Rattle.tsl_world.specs.declared.outside.Channel.TheVariants.{Out, Err}
use Rattle.tsl_world.specs.Journal.{given, ended, AtEntries, IsAny, IsCreation, IsDone, IsNoFailedGift, IsNoRead, IsNoGift, IsOpening, IsTransfer, IsGift, Each, StopsAtFailure}
use Rattle.tsl_world.specs.Runs.{Grows}
use Rattle.tsl_world.specs.Seen.{Seen, given_aside, seen}
use Rattle.tsl_world.proofs.Journals.{given-append, Each-append, each_more}
use Rattle.tsl_world.proofs.Untouched.{gift_elsewhere, gift_transfer, gifts_read_none, gifts_transfer, gifts_within, done_no_failed_gift, no_failed_gift, not_gift, same_channel_back, transfer_makes_none, transfer_opens_none, given_none, openings_before, creations_before, creations_none, openings_none}
use Rattle.tsl_world.proofs.Runs.{grows_weaker}
use Rattle.tsl_world.proofs.Telling.{seen_told}
use Rattle.trace_run.proofs.Grown.{grows_both}
use Rattle.tsl_world.proofs.Places.{at_each_join, at_fewer, at_join, at_more, at_not, at_weaker}
use Rattle.tessla_cli.specs.declared.ended.Ended.{Ended}
use Rattle.tessla_cli.specs.declared.ending.Ending.{Ending}
use Rattle.tessla_cli.specs.declared.ending.Ending.TheVariants as ending
use Rattle.tsl_world.specs.declared.broken.Broken.{Broken}
use Rattle.tsl_world.specs.declared.broken.Broken.TheVariants as broken
use Rattle.tessla_cli.specs.Alone.{BenchStops, IsTallyText}
use Rattle.tessla_cli.specs.Asked.{for_asked, made_files}
use Rattle.tessla_cli.specs.Causes.{Cause, Stands}
use Rattle.tessla_cli.specs.Conduct.{IsAllWhole, IsPartlyDue, MakesNothing, MayMake, StopsAtFailures}
use Rattle.tessla_cli.specs.Endings.{ending_of}
use Rattle.tessla_cli.specs.Failures.{Failures, NoneFailed, CallFailed, WriteFailed, SomeFailed}
use Rattle.tessla_cli.specs.Messages.{broken_line, status_of}
use Rattle.tessla_cli.specs.Printed.{RefusesForm, channel_of}
use Rattle.tessla_cli.specs.Outcome.{EndsWith, IsToldBefore, TellsFailure, told_failure, untold_ending, untold_memory, untold_failure, Outcome, told, outside, memory, ShowsAlways, Concludes, TellsBroken, all_of_broken, some_of_broken, TellsEnding, all_of_ending, some_of_ending}
use Rattle.tessla_cli.specs.Running.{OfSource}
use Rattle.tessla_cli.specs.Stages.{AreWholeBefore, Stage, at_program, at_work, opened_at, stage_of, whole_at}
use Rattle.tessla_cli.specs.Unseen.{NoUpdateIsSeen}
use Rattle.trace_run.specs.Effects.{Writes}
use Rattle.tessla_cli.specs.inner.RunPhases.{ReadsSpec, GivesSource, SourceEnds, spec_refused, compiled_ends, HasPrinted, HasWritten, IsAgainst, IsWritten, all_written, none_written, whole_ends, AloneIsDone, written, stopped, DoesAllAsked, WordsRefused}
use Rattle.tessla_cli.proofs.Failing.{call_and_none, call_and_write, none_and_write}
use Rattle.tessla_cli.proofs.Facts.{of_text, spec_front}
use Rattle.tessla_cli.proofs.Fronts.{Front, MayOpen, Shows, front_creations, front_given, front_openings, nothing_given, whole_now}
use Rattle.tessla_cli.proofs.Refused.{IsToldBy, done_speaks, program_early, refused_stands, told_by_line}
use Rattle.tessla_cli.proofs.RunStands.{trace_before, trace_stands}
use Rattle.tessla_cli.proofs.WhyStands.{why_before, why_stands}
use Rattle.tessla_cli.proofs.Writing.{given_there, has_put_puts, put_facts, put_made, put_whole, refusals}

-- a run that ends before the end of its trace is not done
early_not_done : (how : RunEnding) → how ≢ run.Done → ending.Done ≡ ending_of how → ⊥
early_not_done run.Done early is = early refl
early_not_done (run.Trace fault) early is = absurd (let e : ending.Done ≡ ending.Trace fault = is in cc)
early_not_done (run.Fault t k p) early is = absurd (let e : ending.Done ≡ ending.Fault t k p = is in cc)
early_not_done (run.Limit n t) early is = absurd (let e : ending.Done ≡ ending.Limit n t = is in cc)

pub run_not_words : (how : RunEnding) → ending.Words ≡ ending_of how → ⊥
run_not_words run.Done is = absurd (let e : ending.Words ≡ ending.Done = is in cc)
run_not_words (run.Trace fault) is = absurd (let e : ending.Words ≡ ending.Trace fault = is in cc)
run_not_words (run.Fault t k p) is = absurd (let e : ending.Words ≡ ending.Fault t k p = is in cc)
run_not_words (run.Limit n t) is = absurd (let e : ending.Words ≡ ending.Limit n t = is in cc)

-- where there is no tally, not all is done, and the words are accepted
pub stops_not_done : (kind : Workload) (n : ℕ) → BenchStops kind n ending.Done → ⊥
stops_not_done kind n (inl (fault, refused, is)) = absurd (let e : ending.Done ≡ ending.Spec fault = is in cc)
stops_not_done kind n (inr (how, ran, is)) = early_not_done how ran.is.early is

pub stops_not_words : (kind : Workload) (n : ℕ) → BenchStops kind n ending.Words → ⊥
stops_not_words kind n (inl (fault, refused, is)) = absurd (let e : ending.Words ≡ ending.Spec fault = is in cc)
stops_not_words kind n (inr (how, ran, is)) = run_not_words how is

-- A text that is written, or something stands against it.
module _ (name : List ℕ) (f : Form) (reads : List Did) (r : ReadsSpec reads) (source : List ℕ) (g : GivesSource source reads) where
  abbrev write : Command
  write = command.Write name f

  abbrev files : List (Slot × List ℕ)
  files = (Spec, name) ∷ []

  abbrev front : List Did
  front = Opened Spec name ∷ reads

  front_is : Front write files front
  front_is = spec_front name f reads r source g

  text_stands : (rest : List Did) → HasPrinted source f rest → Stands (Some write) ending.Done (seen (Opened Spec name ∷ (reads ++ rest)))
  text_stands rest p =
      let part = Opened Spec name ∷ (reads ++ rest) in
      let facts = put_facts f name p.text rest (has_put_puts f p.text rest p.puts) in
      let given_is : given_aside (channel_of f) part ≡ p.text = given_there f part ∙ front_given write files front front_is (channel_of f) rest ∙ put_whole f p.text rest p.puts in
      record {
        holds = (refl, of_text name f reads r source g rest (facts.unread Spec) p.text p.is (λ text. given_aside (channel_of f) part ≡ text) given_is);
        opens = front_openings write files front front_is rest ∙ ap (λ (l : List (Slot × List ℕ)). (Spec, name) ∷ l) facts.opens;
        whole = whole_now write files front front_is Trace (refl, tt) rest (λ at other. facts.unread at);
        makes = front_creations write files front front_is rest ∙ put_made f name p.text rest p.puts;
        silent = λ to is. done_speaks to is;
      }

  -- what stands against a text is the cause of an ending, before the work
  against_here : (by : Ending) → IsAgainst source f by → OfSource (seen front) (λ items s. RefusesForm f s by)
  against_here by a = record { items = a.items; system = a.system; compiled = subst (λ (l : List ℕ). Compiles l a.items a.system) (sym g.bytes_are) a.compiles; holds = a.refuses }

  against_cause : (by : Ending) → IsAgainst source f by → Cause (Some write) (seen front) by
  against_cause by a = elim (refusals f a.system by a.refuses) [
    | inl (k, is) ↦ subst (Cause (Some write) (seen front)) (sym is) (against_here (ending.NoOutput k) (subst (IsAgainst source f) is a))
    | inr (fault, is) ↦ subst (Cause (Some write) (seen front)) (sym is) (against_here (ending.Code fault) (subst (IsAgainst source f) is a))
  ]

  against_early : (by : Ending) → IsAgainst source f by → stage_of by ≡ at_program
  against_early by a = elim (refusals f a.system by a.refuses) [
    | inl (k, is) ↦ ap stage_of is
    | inr (fault, is) ↦ ap stage_of is
  ]

  -- a specification that is refused, or of which there is no text
  source_stands : (by : Ending) → stage_of by ≡ at_program → Cause (Some write) (seen front) by → (rest : List Did) → rest ≡ [] → Stands (Some write) by (seen (front ++ rest))
  source_stands by early cause = refused_stands write files front front_is by (program_early by early) (ap (λ (s : Stage). whole_at s write) early) cause

  done_stands : (by : Ending) (rest : List Did) → IsWritten source f by rest → Stands (Some write) by (seen (front ++ rest))
  done_stands by rest (all_written done p) = subst (λ (b : Ending). Stands (Some write) b (seen (front ++ rest))) (sym done) (text_stands rest p)
  done_stands by rest (none_written a none) = source_stands by (against_early by a) (against_cause by a) rest none

  written_stands : (by : Ended) (rest : List Did) → SourceEnds source (HasWritten source f by) by rest → Stands (Some write) by.ending (seen (front ++ rest))
  written_stands by rest (spec_refused {fault} same nothing refused none) =
      subst (λ (b : Ending). Stands (Some write) b (seen (front ++ rest))) (sym same)
      (source_stands (ending.Spec fault) refl (subst (λ (l : List ℕ). IsRefusedBy l fault) (sym g.bytes_are) refused) rest none)
  written_stands by rest (compiled_ends h) = done_stands by.ending rest h.done

  written_before : (x : Seen) (by : Ended) (rest : List Did) → SourceEnds source (HasWritten source f by) by rest → IsToldBy (Some write) by x
  written_before x by rest (spec_refused same line refused none) = told_by_line (Some write) by x refl line
  written_before x by rest (compiled_ends h) = told_by_line (Some write) by x refl h.told

-- A text that needs no specification of the outside.
sample_stands : (n : ℕ) (by : Ending) (part : List Did) → AloneIsDone (λ text. text ≡ trace_text n) (λ by. ⊥) by part → Stands (Some (command.Generate n)) by (seen part)
sample_stands n by part (written done p) = subst (λ (b : Ending). Stands (Some (command.Generate n)) b (seen part)) (sym done) record {
  holds = (refl, p.whole ∙ p.is);
  opens = openings_none part (gifts_transfer Out part p.writes.gifts);
  whole = tt;
  makes = creations_none part (gifts_transfer Out part p.writes.gifts);
  silent = λ to is. done_speaks to is;
}
sample_stands n by part (stopped stops none) = absurd stops

stops_stand : (kind : Workload) (n : ℕ) (by : Ending) → BenchStops kind n by → Stands (Some (command.Bench kind n)) by (seen [])
stops_stand kind n ending.Done stops = absurd (stops_not_done kind n stops)
stops_stand kind n ending.Words stops = absurd (stops_not_words kind n stops)
stops_stand kind n (ending.Spec fault) stops = record { holds = stops; opens = refl; whole = tt; makes = refl; silent = λ to is. nothing_given [] to tt }
stops_stand kind n (ending.Code fault) stops = record { holds = stops; opens = refl; whole = tt; makes = refl; silent = λ to is. nothing_given [] to tt }
stops_stand kind n (ending.NoOutput name) stops = record { holds = stops; opens = refl; whole = tt; makes = refl; silent = λ to is. nothing_given [] to tt }
stops_stand kind n (ending.State fault) stops = record { holds = stops; opens = refl; whole = tt; makes = refl; silent = λ to is. nothing_given [] to tt }
stops_stand kind n (ending.Trace fault) stops = record { holds = (stops, refl); opens = refl; whole = tt; makes = refl; silent = λ to is. nothing_given [] to tt }
stops_stand kind n (ending.Fault t k p) stops = record { holds = (stops, refl); opens = refl; whole = tt; makes = refl; silent = λ to is. nothing_given [] to tt }
stops_stand kind n (ending.NoEvent name t) stops = record { holds = (stops, refl); opens = refl; whole = tt; makes = refl; silent = λ to is. nothing_given [] to tt }
stops_stand kind n (ending.Limit m t) stops = record { holds = (stops, refl); opens = refl; whole = tt; makes = refl; silent = λ to is. nothing_given [] to tt }

tally_stands : (kind : Workload) (n : ℕ) (by : Ending) (part : List Did) → AloneIsDone (IsTallyText kind n) (BenchStops kind n) by part → Stands (Some (command.Bench kind n)) by (seen part)
tally_stands kind n by part (written done p) = subst (λ (b : Ending). Stands (Some (command.Bench kind n)) b (seen part)) (sym done) record {
  holds = subst (IsTallyText kind n) (sym p.whole) p.is;
  opens = openings_none part (gifts_transfer Out part p.writes.gifts);
  whole = tt;
  makes = creations_none part (gifts_transfer Out part p.writes.gifts);
  silent = λ to is. done_speaks to is;
}
tally_stands kind n by part (stopped stops none) = subst (λ (l : List Did). Stands (Some (command.Bench kind n)) by (seen l)) (sym none) (stops_stand kind n by stops)

words_stand : (by : Ended) (part : List Did) → WordsRefused by part → Stands None by.ending (seen part)
words_stand by part w =
    subst (λ (b : Ending). Stands None b (seen part)) (sym w.ending)
    (subst (λ (l : List Did). Stands None ending.Words (seen l)) (sym w.nothing) record { holds = refl; opens = refl; whole = tt; makes = refl; silent = λ to is. nothing_given [] to tt })

-- What stands where a command was done, from its parts, and what is told before its line.
pub asked_stands : (c : Option Command) (by : Ended) (part : List Did) → DoesAllAsked c by part → Stands c by.ending (seen part)
asked_stands None by part does = words_stand by part does
asked_stands (Some (command.Write name f)) by _ (whole_ends reads rest source r g e) = written_stands name f reads r source g by rest e
asked_stands (Some (command.Run r)) by _ (whole_ends reads rest bytes read g e) = trace_stands r reads read bytes g by rest e
asked_stands (Some (command.Why w)) by _ (whole_ends reads rest source r g e) = why_stands w reads r source g by rest e
asked_stands (Some (command.Generate n)) by part does = sample_stands n by.ending part does.done
asked_stands (Some (command.Bench kind n)) by part does = tally_stands kind n by.ending part does.done

pub asked_before : (c : Option Command) (by : Ended) (part : List Did) → DoesAllAsked c by part → IsToldBy c by (seen part)
asked_before None by part does = told_by_line None by (seen part) refl does.told
asked_before (Some (command.Write name f)) by _ (whole_ends reads rest source r g e) = written_before name f reads r source g (seen (Opened Spec name ∷ (reads ++ rest))) by rest e
asked_before (Some (command.Run r)) by _ (whole_ends reads rest bytes read g e) = trace_before r reads read bytes g by rest e
asked_before (Some (command.Why w)) by _ (whole_ends reads rest source r g e) = why_before w reads r source g (seen (Opened Spec w.spec ∷ (reads ++ rest))) by rest e
asked_before (Some (command.Generate n)) by part does = told_by_line (Some (command.Generate n)) by (seen part) refl does.told
asked_before (Some (command.Bench kind n)) by part does = told_by_line (Some (command.Bench kind n)) by (seen part) refl does.told

module _ (c : Option Command) (unseen : (x : Seen) → NoUpdateIsSeen c x) where
  module _ (part more : List Did) (w : Writes Err more) where
    gifts : Each (IsGift Err) more
    gifts = w.gifts

    no_reads : (from : Slot) → Each (IsNoRead from) more
    no_reads from = gifts_read_none Err from more gifts

    moves : Each IsTransfer more
    moves = gifts_transfer Err more gifts

    -- what holds of what the journal shows still holds
    pub still : (P : Seen → Type 0) → P (seen part) → P (seen (part ++ more))
    still P holds = subst P (sym (seen_told part more gifts)) holds

    -- a write to Err follows, and no other call, so that what held of the calls before holds
    after_writes : (Q : Did → Type 0) (P : List Did → Type 0) → ((did : Did) → IsGift Err did → Q did → ⊥) → AtEntries Q P part → AtEntries Q P (part ++ more)
    after_writes Q P other first = at_join Q P part more first (at_not Q (λ less. P (part ++ less)) more (each_more (IsGift Err) (λ did. Q did → ⊥) other more gifts))

    stops_told : StopsAtFailure part → Each (IsNoGift Err) part → StopsAtFailures (part ++ more)
    stops_told stops silent = record {
      silent = after_writes (λ did. IsGift Err did → ⊥) (Each IsDone) (λ did gift none. none gift) (at_fewer IsAny (λ did. IsGift Err did → ⊥) (Each IsDone) part (λ did none. tt) stops);
      last = at_each_join (IsNoFailedGift Err) part more (each_more (IsNoGift Err) (IsNoFailedGift Err) (no_failed_gift Err) part silent)
          (at_weaker IsAny (Each IsDone) (Each (IsNoFailedGift Err)) more (each_more IsDone (IsNoFailedGift Err) (done_no_failed_gift Err)) w.stops);
    }

    pub shows_told : Shows c part → ShowsAlways c (part ++ more)
    shows_told s = record {
      opens = subst (λ (l : List (Slot × List ℕ)). Begins l (for_asked (opened_at at_work) c)) (sym (openings_before part more moves)) s.opens;
      makes = subst (λ (l : List (Channel × List ℕ)). Begins l (for_asked made_files c)) (sym (creations_before part more moves)) s.makes;
      makes_last = after_writes IsCreation (λ before. IsAllWhole c (seen before) × MayMake c (seen before)) (λ did gift. transfer_makes_none did (gift_transfer Err did gift)) s.makes_last;
      in_turn = record {
        opens = λ from. after_writes (IsOpening from) (MayOpen c from) (λ did gift. transfer_opens_none from did (gift_transfer Err did gift)) (s.in_turn.opens from);
        reads = λ from. at_more from (λ before. AreWholeBefore from (for_asked (opened_at at_work) c) (seen before)) part more (s.in_turn.reads from) (no_reads from);
      };
      writes_last = λ to other. after_writes (IsGift to) (λ before. IsAllWhole c (seen before)) (λ did gift. not_gift to did (gift_elsewhere Err to (same_channel_back Err to ∙ other) did gift)) (s.writes_last to other);
      ends = λ from. at_more from (λ before. ended from before ≡ false) part more (s.ends from) (no_reads from);
      limits = λ from. at_more from _ part more (s.limits from) (no_reads from);
      pieces = Each-append _ part more s.pieces (gifts_within Err _ more gifts);
      stops = stops_told s.stops s.silent;
      due = at_more Trace _ part more s.due (no_reads Trace);
      goes_on = at_more Trace _ part more s.goes_on (no_reads Trace);
      partly = still (IsPartlyDue c) s.partly;
      unseen = unseen (seen (part ++ more));
    }

    -- what Err got
    pub err_told : given Err part ≡ [] → given Err (part ++ more) ≡ given Err more
    err_told none = given-append Err part more ∙ ap (λ (l : List ℕ). l ++ given Err more) none

    module _ (shows : Shows c part) where
      with_outcome : (before now : Failures) (status : ℕ) → Outcome c before now status (part ++ more) → Concludes c before now status (part ++ more)
      with_outcome before now status outcome = record { shows = shows_told shows; outcome = outcome }

    -- less of a text
    less_told : (text : List ℕ) → given Err part ≡ [] → BeginsStrictly (given Err more) text → BeginsStrictly (given Err (part ++ more)) text
    less_told text none less = subst (λ (l : List ℕ). BeginsStrictly l text) (sym (err_told none)) less

  -- A run that was cut short is told: by a failure of the outside, or by memory that ran out.
  module _ (before mid now : Failures) (status : ℕ) (part more : List Did) (shows : Shows c part) where
    pub concludes_failure : CallFailed before mid → TellsBroken broken.Outside mid now status more → Concludes c before now status (part ++ more)
    concludes_failure call (all_of_broken is same gifts whole) =
        with_outcome part more gifts shows before now status (outside is (told_failure (call_and_none before mid now call same) (err_told part more gifts (given_none Err part shows.silent) ∙ whole)))
    concludes_failure call (some_of_broken is write gifts less) =
        with_outcome part more gifts shows before now status (outside is (untold_failure (call_and_write before mid now call write) (less_told part more gifts (broken_line broken.Outside) (given_none Err part shows.silent) less)))

    pub concludes_memory : NoneFailed before mid → MakesNothing part → TellsBroken broken.Memory mid now status more → Concludes c before now status (part ++ more)
    concludes_memory none unmade (all_of_broken is same gifts whole) =
        with_outcome part more gifts shows before now status
        (memory is record { told = err_told part more gifts (given_none Err part shows.silent) ∙ whole; makes = creations_before part more (moves part more gifts) ∙ unmade })
    concludes_memory none unmade (some_of_broken is write gifts less) =
        with_outcome part more gifts shows before now status (outside is (untold_memory (none_and_write before mid now none write) (creations_before part more (moves part more gifts) ∙ unmade) (less_told part more gifts (broken_line broken.Memory) (given_none Err part shows.silent) less)))

    -- An ending is told.
    pub concludes_ending : (by : Ended) → NoneFailed before mid → Stands c by.ending (seen part) → IsToldBy c by (seen part) → TellsEnding by mid now status more → Concludes c before now status (part ++ more)
    concludes_ending by none held t (all_of_ending is gifts whole) =
        with_outcome part more gifts shows before now status (told by.ending is record {
          stands = still part more gifts (Stands c by.ending) held;
          before = t.before;
          is_before = still part more gifts (λ x. IsToldBefore c by.ending x t.before) t.is_before;
          told = err_told part more gifts (given_none Err part shows.silent) ∙ whole ∙ t.text_is;
        })
    concludes_ending by none held t (some_of_ending is write gifts less) =
        with_outcome part more gifts shows before now status (outside is (untold_ending (none_and_write before mid now none write) by.ending (still part more gifts (Stands c by.ending) held) t.before
        (still part more gifts (λ x. IsToldBefore c by.ending x t.before) t.is_before)
        (subst (λ (l : List ℕ). BeginsStrictly (given Err (part ++ more)) l) t.text_is (less_told part more gifts by.text (given_none Err part shows.silent) less))))

  pub concludes_broken : (by : Broken) (before mid now : Failures) (status : ℕ) (part more : List Did) → (by ≡ broken.Outside → CallFailed before mid) → (by ≡ broken.Memory → NoneFailed before mid) → (by ≡ broken.Memory → MakesNothing part) → Shows c part
      → TellsBroken by mid now status more → Concludes c before now status (part ++ more)
  concludes_broken broken.Outside before mid now status part more call none unmade shows tells = concludes_failure before mid now status part more shows (call refl) tells
  concludes_broken broken.Memory before mid now status part more call none unmade shows tells = concludes_memory before mid now status part more shows (none refl) (unmade refl) tells

is_which : (by : Broken) → (by ≡ broken.Outside) ⊎ (by ≡ broken.Memory)
is_which broken.Outside = inl refl
is_which broken.Memory = inr refl

-- Where memory ran out no file was made: a fact about the same calls as another.
module _ {W : Type 0} (told : W → Bool) (journal : W → List Did) where
  pub grows_unmade : (by : Broken) (old new : W) (P : List Did → Type 0) → Grows told journal old new P → (by ≡ broken.Memory → Grows told journal old new MakesNothing)
      → Grows told journal old new (λ p. P p × (by ≡ broken.Memory → MakesNothing p))
  grows_unmade by old new P calls unmade = elim (is_which by) [
    | inl failed ↦ grows_weaker told journal old new P (λ p. P p × (by ≡ broken.Memory → MakesNothing p)) calls (λ p holds. (holds, λ is. absurd (let bad : broken.Outside ≡ broken.Memory = sym failed ∙ is in cc)))
    | inr ran_out ↦ grows_weaker told journal old new (λ p. P p × MakesNothing p) (λ p. P p × (by ≡ broken.Memory → MakesNothing p)) (grows_both told journal old new P MakesNothing calls (unmade ran_out)) (λ p both. (both.0, λ is. both.1))
  ]

-- The count of failures where a run was cut short, and its line was written or not.
pub calm_broken : (by : Broken) (old mid new : ℕ) → (by ≡ broken.Memory → mid ≡ old) → (result : ℕ) → (by ≡ broken.Outside → result ≡ 5) → ((result ≡ 5 → ⊥) → new ≡ mid) → (result ≡ 5 → ⊥) → new ≡ old
calm_broken by old mid new same result five calm other = elim (is_which by) [
  | inl is ↦ absurd (other (five is))
  | inr is ↦ calm other ∙ same is
]

pub failed_broken : (by : Broken) (old mid new : Failures) → (by ≡ broken.Outside → CallFailed old mid) → (by ≡ broken.Memory → NoneFailed old mid)
    → ((by ≡ broken.Outside) × NoneFailed mid new) ⊎ WriteFailed mid new → SomeFailed old new
failed_broken by old mid new call none (inl (is, kept)) = inl (call_and_none old mid new (call is) kept)
failed_broken by old mid new call none (inr write) = elim (is_which by) [
  | inl is ↦ inr (inr (call_and_write old mid new (call is) write))
  | inr is ↦ inr (inl (none_and_write old mid new (none is) write))
]

-- status 5 is that of a failure of the outside alone
no_five : (by : Ending) → 5 ≡ status_of by → ⊥
no_five ending.Done is = absurd (omega arith)
no_five ending.Words is = absurd (omega arith)
no_five (ending.Spec place) is = absurd (omega arith)
no_five (ending.Code fault) is = absurd (omega arith)
no_five (ending.NoEvent name t) is = absurd (omega arith)
no_five (ending.NoOutput name) is = absurd (omega arith)
no_five (ending.State fault) is = absurd (omega arith)
no_five (ending.Trace fault) is = absurd (omega arith)
no_five (ending.Fault t k p) is = absurd (omega arith)
no_five (ending.Limit n t) is = absurd (omega arith)

five_of : (c : Option Command) (before now : Failures) (status : ℕ) (part : List Did) → status ≡ 5 → Outcome c before now status part → TellsFailure c before now part
five_of c before now status part five (told by is held) = absurd (no_five by (sym five ∙ is))
five_of c before now status part five (outside is some) = some
five_of c before now status part five (memory is tells) = absurd (omega arith)

pub tells_failure : (c : Option Command) (before now : Failures) (status : ℕ) (part : List Did) → status ≡ 5 → Concludes c before now status part → TellsFailure c before now part
tells_failure c before now status part five says = five_of c before now status part five says.outcome

-- each other status is that of an ending
pub ends_with : (c : Option Command) (before now : Failures) (status : ℕ) (part : List Did) → (status ≡ 5 → ⊥) → (status ≡ 6 → ⊥) → Concludes c before now status part → EndsWith c status part
ends_with c before now status part not_outside not_memory says = go says.outcome
  where
    go : Outcome c before now status part → EndsWith c status part
    go (told by is held) = (by, is, held)
    go (outside is some) = absurd (not_outside is)
    go (memory is tells) = absurd (not_memory is)
