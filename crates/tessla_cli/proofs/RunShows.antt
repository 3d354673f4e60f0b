-- What the journal of a run over a trace shows, from its parts.
use Rattle.std.proofs.Common.{◌≡◌, ◌⊎◌, inr, inl, ℕ, Bool, true, false, ◌&&◌, List, [], ◌∷◌, ◌++◌, refl, sym, ◌∙◌, ap, subst, append_assoc, Option, Some, None}
use Rattle.std.proofs.lemmas.List.{append-nil}
use Rattle.std.specs.Prelude.{is_some}
use Rattle.command_words.specs.declared.command.Command.{Command}
use Rattle.command_words.specs.declared.command.Command.TheVariants as command
use Rattle.command_words.specs.declared.command.Run.{Run}
use Rattle.monitor_run.specs.inner.State as engine
use Rattle.register_code.specs.Code.{Code}
use Rattle.trace_monitor.specs.Counted.{HasCounted}
use Rattle.trace_monitor.specs.declared.ending.RunEnding.{RunEnding}
use Rattle.trace_monitor.specs.declared.ending.RunEnding.TheVariants as run
use Rattle.trace_monitor.specs.Due.{IsDue}
use Rattle.trace_monitor.specs.Ending.{GoesOn}
use Rattle.trace_monitor.specs.Saved.{IsSavedAs}
use Rattle.trace_reader.specs.declared.limits.TheConstants.{MOST_PIECE_BYTES}
use Rattle.trace_run.specs.Before.{Before}
use Rattle.trace_run.specs.declared.run.Ran.{Ran}
use Rattle.trace_run.specs.declared.start.Start.{Start}
use Rattle.trace_run.specs.declared.start.Start.TheVariants as start
use Rattle.trace_run.specs.Effects.{BeginsDue, CodeEnds, EndsWhere, HasSaved, HasWatched, IsTraceWork, Leaves, MayRead, RunsCode, WatchEnds, Watched, ends, idle, no_trace, watched}
use Rattle.trace_run.specs.Means.{BeginsAs, IsUnhindered, WatchEndsAs, all_of, told_of}
use Rattle.trace_run.specs.Program.{Program}
use Rattle.trace_run.specs.Starts.{IsBegunAfter, most_bytes, taken_at}
use Rattle.trace_run.specs.Statistics.{AreStatistics, counted_text}
use Rattle.trace_run.proofs.Counted.{statistics_meant}
use Rattle.trace_run.proofs.Programs.{begins_as, due_as, goes_on_as, watch_ends_as}
use Rattle.tsl_world.specs.Begins.{Begins}
use Rattle.tsl_world.specs.declared.outside.Channel.{Channel}
use Rattle.tsl_world.specs.declared.outside.Channel.TheVariants as channel
use Rattle.tsl_world.specs.declared.outside.Channel.TheVariants.{Out, Err}
use Rattle.tsl_world.specs.declared.outside.Did.{Did}
use Rattle.tsl_world.specs.declared.outside.Did.TheVariants.{Opened, NotOpened}
use Rattle.tsl_world.specs.declared.outside.Slot.{Slot}
use Rattle.tsl_world.specs.declared.outside.Slot.TheVariants.{State, Trace}
use Rattle.tsl_world.specs.Journal.{given, taken, ended, openings, creations, same_channel, AtAll, AtEntries, AtReads, Each, IsAny, IsCreation, IsDone, IsNoGift, IsNoRead, IsOpening, IsRead, IsTransfer, IsWithin, StopsAtFailure}
use Rattle.tsl_world.specs.Seen.{Seen, seen}
use Rattle.tsl_world.proofs.Journals.{Each-append, creations-append, openings-append}
use Rattle.tsl_world.proofs.Untouched.{creations_none, ended_after, ended_before, given_after, given_before, openings_none, taken_after, taken_before}
use Rattle.tsl_world.proofs.Places.{at_after, at_each, at_each_join, at_fewer, at_join, at_more, at_none, at_not}
use Rattle.tessla_cli.specs.Asked.{made_files, named_at, options_of, origin_file, tells_end}
use Rattle.tessla_cli.specs.Conduct.{BeginsSaved, GoesOnAtRead, MayMake}
use Rattle.tessla_cli.specs.Endings.{OfEnding, ending_of}
use Rattle.tessla_cli.specs.Finished.{IsLeftOf, RunFinishes}
use Rattle.tessla_cli.specs.Headline.{IsDueAtRead}
use Rattle.tessla_cli.specs.Running.{IsBefore, OfRun, OfRunSince}
use Rattle.tessla_cli.specs.Stages.{AreWhole, at_work, opened_at}
use Rattle.tessla_cli.specs.declared.limits.TheConstants.{MOST_STATE_BYTES}
use Rattle.tessla_cli.specs.declared.ending.Ending.TheVariants as ending
use Rattle.tessla_cli.specs.inner.RunPhases.{Does, GivesFile, HasSavedTo, IsLoadedCode, Monitors, PutsFile, ReadsFile, ReadsName, ReadsOrigin, RunsFile, RunsFrom, RunsResumed, RunsSince, RunsSource, compiled, has_saved, monitors, most_from, nothing_saved, reading, saves, uncompiled, unread, whole}
use Rattle.tessla_cli.proofs.Fronts.{IsOn, ReadsNothing, ReadsOnly, ReadsSlot, Shows, apart_none, each_work, front_creations, front_openings, no_creation_in, no_opening_in, nothing_given, opening_first, opens_next, partly_of, shows_first, shows_front, shows_no_trace, shows_reading, shows_tail, then_slot, whole_now}
use Rattle.tessla_cli.proofs.Loading.{limit_of, other_slot, state_apart, trace_apart}
use Rattle.tessla_cli.proofs.Reading.{same_slot_itself}
use Rattle.tessla_cli.proofs.RunFronts.{IsWithinStart, RunFront, TakesAs, anew_front, front_files, of_run_at, origin_front, origin_judged, origin_part, program_judged, resumed_front, run_judged, since, state_append, state_next, state_part, takes_as, trace_after, trace_next}
use Rattle.tessla_cli.proofs.Writing.{FileFacts, file_facts, has_put_file_puts}

-- ---- what is done after the trace

-- Nothing is opened or read, and nothing is given to Out.
pub record IsAside (more : List Did) : Type 0 where
  pub unread : (at : Slot) → Each (IsNoRead at) more
  pub unopened : (at : Slot) → Each (λ did. IsOpening at did → ⊥) more
  pub silent : Each (IsNoGift Out) more

pub aside_none : IsAside []
aside_none = record { unread = λ at. tt; unopened = λ at. tt; silent = tt }

pub aside_put : (name text : List ℕ) (part : List Did) → PutsFile channel.State name text part → IsAside part
aside_put name text part puts = let f = file_facts channel.State name text part puts in record { unread = f.unread; unopened = f.unopened; silent = f.elsewhere Out refl }

pub aside_saved : (file left : Option (List ℕ)) (part : List Did) → HasSavedTo file left part → IsAside part
aside_saved file None _ nothing_saved = aside_none
aside_saved None (Some state) part none = elim none [ ]
aside_saved (Some file) (Some state) part (has_saved _ put) = aside_put file state part (has_put_file_puts channel.State file state part put)

-- so it is with any beginning of it
aside_before : (more : List Did) → IsAside more → AtAll IsAside more
aside_before more a less entry = record {
  unread = λ at. at_each (IsNoRead at) more (a.unread at) less entry;
  unopened = λ at. at_each (λ did. IsOpening at did → ⊥) more (a.unopened at) less entry;
  silent = at_each (IsNoGift Out) more a.silent less entry;
}

none_opened : (more : List Did) → ((at : Slot) → Each (λ did. IsOpening at did → ⊥) more) → openings more ≡ []
none_opened [] none = refl
none_opened (Opened at name ∷ more) none = absurd ((none at).0 (same_slot_itself at))
none_opened (NotOpened at name ∷ more) none = absurd ((none at).0 (same_slot_itself at))
none_opened (did ∷ more) none = none_opened more (λ at. (none at).1)

-- a state is left only where all was done
pub left_done : (c : Code) (P : Before → Type 0) (how : RunEnding) (bytes : List ℕ) (part : List Did) (saves : Bool) → Leaves c P saves how (Some bytes) part → (how ≡ run.Done) × HasSaved c P bytes part
left_done c P run.Done bytes part true left = (refl, left)
left_done c P run.Done bytes part false left = absurd (let bad : Some bytes ≡ None = left in cc)
left_done c P (run.Trace fault) bytes part true left = absurd (let bad : Some bytes ≡ None = left in cc)
left_done c P (run.Trace fault) bytes part false left = absurd (let bad : Some bytes ≡ None = left in cc)
left_done c P (run.Fault t k p) bytes part true left = absurd (let bad : Some bytes ≡ None = left in cc)
left_done c P (run.Fault t k p) bytes part false left = absurd (let bad : Some bytes ≡ None = left in cc)
left_done c P (run.Limit n t) bytes part true left = absurd (let bad : Some bytes ≡ None = left in cc)
left_done c P (run.Limit n t) bytes part false left = absurd (let bad : Some bytes ≡ None = left in cc)

-- the ending that all was done is that of a run that has done all
pub done_is : (how : RunEnding) → ending_of how ≡ ending.Done → how ≡ run.Done
done_is run.Done is = refl
done_is (run.Trace fault) is = absurd (let bad : ending.Trace fault ≡ ending.Done = is in cc)
done_is (run.Fault t k p) is = absurd (let bad : ending.Fault t k p ≡ ending.Done = is in cc)
done_is (run.Limit n t) is = absurd (let bad : ending.Limit n t ≡ ending.Done = is in cc)

module _ (r : Run) (code : Code) (begins : Start) (front : List Did) (f : RunFront r code begins front) where
  abbrev c : Command
  c = command.Run r

  abbrev P : Before → Type 0
  P = IsBegunAfter code begins

  abbrev te : Bool
  te = tells_end r

  -- a read may follow this much of the journal after the opening of the trace
  abbrev CanRead : List Did → Type 0
  CanRead less = ((b : Before) → P b → MayRead code.system b less) × IsWithinStart begins (taken Trace less)

  no_trace_before : Each (IsNoRead Trace) front
  no_trace_before = f.is.unread Trace (trace_after r)

  -- what stands by the trace and Out after its opening stands after the front
  after_front : (Q : List ℕ → Bool → List ℕ → Type 0) (less : List Did) → Q (taken Trace less) (ended Trace less) (given Out less)
      → let all = front ++ Opened Trace r.trace ∷ less in Q (taken Trace all) (ended Trace all) (given Out all)
  after_front Q less q =
      let rest = Opened Trace r.trace ∷ less in
      subst (λ (t : List ℕ). Q t (ended Trace (front ++ rest)) (given Out (front ++ rest))) (sym (taken_after Trace front rest no_trace_before))
      (subst (λ (e : Bool). Q (taken Trace less) e (given Out (front ++ rest))) (sym (ended_after Trace front rest no_trace_before))
      (subst (λ (l : List ℕ). Q (taken Trace less) (ended Trace less) l) (sym (given_after Out front rest (f.is.ungiven Out))) q))

  -- ---- before a read of the trace
  module _ (less : List Did) (none : ReadsOnly Trace less) where
    abbrev x_before : Seen
    x_before = seen (front ++ Opened Trace r.trace ∷ less)

    same_before : TakesAs front (seen (front ++ Opened Trace r.trace ∷ less))
    same_before = takes_as front (Opened Trace r.trace ∷ less) (λ at other. (tt, none at other))

    due_at : CanRead less → IsDueAtRead (Some c) x_before
    due_at may = f.due x_before same_before (λ b begun. let x = x_before in
        due_as f.program f.can code f.code_is b.options (all_of b x) false (b.text ++ x.given Out)
        (after_front (λ t e l. IsDue code.system b.options (b.bytes ++ t) false (b.text ++ l)) less (may.0 b begun).due))

    goes_on_at : CanRead less → GoesOnAtRead (Some c) x_before
    goes_on_at may = (
      since r code begins front f x_before same_before (λ p b. IsUnhindered p b.options (all_of b x_before) false) (λ b begun.
          goes_on_as f.program f.can code f.code_is b.options (all_of b x_before) (after_front (λ t e l. GoesOn code.system b.options (b.bytes ++ t)) less (may.0 b begun).goes_on)),
      f.within x_before same_before (after_front (λ t e l. IsWithinStart begins t) less may.1),
    )

  -- ---- the trace was read, and something may be done after it
  module _ (part : List Did) (work : Each IsTraceWork part) (more : List Did) (a : IsAside more) where
    abbrev trace_part : List Did
    trace_part = Opened Trace r.trace ∷ (part ++ more)

    abbrev pub all : List Did
    all = front ++ Opened Trace r.trace ∷ (part ++ more)

    moves : Each IsTransfer part
    moves = each_work IsTransfer (λ bytes short. tt) (λ bytes. tt) tt tt part work

    work_only : ReadsOnly Trace part
    work_only at other = each_work (IsNoRead at) (λ bytes short. other) (λ bytes. tt) other tt part work

    trace_only : ReadsOnly Trace (Opened Trace r.trace ∷ (part ++ more))
    trace_only at other = (tt, Each-append (IsNoRead at) part more (work_only at other) (a.unread at))

    same_all : TakesAs front (seen (front ++ Opened Trace r.trace ∷ (part ++ more)))
    same_all = takes_as front trace_part trace_only

    pub of_run : (Q : Program → Type 0) → Q f.program → OfRun r (seen all) Q
    of_run Q holds = of_run_at r code begins front f (seen all) same_all Q holds

    pub run_since : (Q : Program → Before → Type 0) → ((b : Before) → IsBegunAfter code begins b → Q f.program b) → OfRunSince r (seen all) Q
    run_since Q says = since r code begins front f (seen all) same_all Q says

    pub begun : (b : Before) → IsBefore r.resume r f.program (seen all) b → IsBegunAfter code begins b
    begun b before = f.begun (seen all) same_all b before

    -- what stands by the trace and Out stands after all
    stands_after : (Q : List ℕ → Bool → List ℕ → Type 0) → Q (taken Trace part) (ended Trace part) (given Out part) → Q (taken Trace all) (ended Trace all) (given Out all)
    stands_after Q q =
        after_front Q (part ++ more)
        (subst (λ (t : List ℕ). Q t (ended Trace (part ++ more)) (given Out (part ++ more))) (sym (taken_before Trace part more (a.unread Trace)))
        (subst (λ (e : Bool). Q (taken Trace part) e (given Out (part ++ more))) (sym (ended_before Trace part more (a.unread Trace)))
        (subst (λ (l : List ℕ). Q (taken Trace part) (ended Trace part) l) (sym (given_before Out part more a.silent)) q)))

    pub taken_all : taken Trace all ≡ taken Trace part
    taken_all = stands_after (λ t e l. t ≡ taken Trace part) refl

    pub ended_all : ended Trace all ≡ ended Trace part
    ended_all = stands_after (λ t e l. e ≡ ended Trace part) refl

    pub given_all : given Out all ≡ given Out part
    given_all = stands_after (λ t e l. l ≡ given Out part) refl

    -- to another channel than Out no more is given than after the trace
    no_gift_before : (to : Channel) → same_channel Out to ≡ false → Each (IsNoGift to) (front ++ Opened Trace r.trace ∷ part)
    no_gift_before to other =
        Each-append (IsNoGift to) front (Opened Trace r.trace ∷ part) (f.is.ungiven to) (tt, each_work (IsNoGift to) (λ bytes short. tt) (λ bytes. other) tt other part work)

    pub no_other_gift : (to : Channel) → same_channel Out to ≡ false → Each (IsNoGift to) more → Each (IsNoGift to) all
    no_other_gift to other none =
        subst (λ (l : List Did). Each (IsNoGift to) l) (append_assoc front (Opened Trace r.trace ∷ part) more) (Each-append (IsNoGift to) (front ++ Opened Trace r.trace ∷ part) more (no_gift_before to other) none)

    pub given_more : given channel.State all ≡ given channel.State more
    given_more =
        ap (λ (l : List Did). given channel.State l) (sym (append_assoc front (Opened Trace r.trace ∷ part) more))
        ∙ given_after channel.State (front ++ Opened Trace r.trace ∷ part) more (no_gift_before channel.State refl)

    made_after : creations trace_part ≡ creations more
    made_after = creations-append part more ∙ ap (λ (l : List (Channel × List ℕ)). l ++ creations more) (creations_none part moves)

    pub made_all : creations all ≡ creations more
    made_all = front_creations c (front_files r) front f.is trace_part ∙ made_after

    opened_after : openings trace_part ≡ (Trace, r.trace) ∷ []
    opened_after =
        ap (λ (l : List (Slot × List ℕ)). (Trace, r.trace) ∷ l)
        (openings-append part more ∙ ap (λ (l : List (Slot × List ℕ)). l ++ openings more) (openings_none part moves) ∙ none_opened more a.unopened)

    pub opened_all : openings all ≡ opened_at at_work (command.Run r)
    opened_all = front_openings c (front_files r) front f.is trace_part ∙ ap (λ (l : List (Slot × List ℕ)). front_files r ++ l) opened_after

    pub whole_all : AreWhole (front_files r) (seen all)
    whole_all = whole_now c (front_files r) front f.is Trace (trace_after r) trace_part trace_only

    -- ---- how it ends
    all_ends : (state : engine.State) (how : RunEnding) (b : Before) → WatchEnds code.system b te state how part → WatchEnds code.system b te state how all
    all_ends state how b w = record {
      due = stands_after (λ t e l. IsDue code.system b.options (b.bytes ++ t) (te && e) (b.text ++ l)) w.due;
      cause = stands_after (λ t e l. EndsWhere code.system b.options (b.bytes ++ t) te e how) w.cause;
      counted = stands_after (λ t e l. HasCounted code.system b.options (b.bytes ++ t) (te && e) state how) w.counted;
    }

    pub ends_after : (state : engine.State) (how : RunEnding) (b : Before) → WatchEnds code.system b (tells_end r) state how part → WatchEndsAs f.program b (tells_end r) how (seen all)
    ends_after state how b w = watch_ends_as f.program f.can code f.code_is b te state how all (all_ends state how b w)

    -- what is told of the updates
    pub statistics_after : (state : engine.State) → state.in_place ≡ code.in_place → (how : RunEnding) (b : Before) (text : List ℕ) → WatchEnds code.system b (tells_end r) state how part
        → text ≡ counted_text code.system state true → AreStatistics f.program b.options (all_of b (seen all)) (told_of (tells_end r) (seen all)) how text
    statistics_after state set how b text w is = statistics_meant f.program code f.code_is b te state set how all text (all_ends state how b w) is

    pub finishes : (state : engine.State) (how : RunEnding) → HasWatched code.system (IsBegunAfter code begins) (tells_end r) state how part → RunFinishes r (seen all) (ending_of how)
    finishes state how w = record {
      read = λ is. ended_all ∙ w.read (done_is how is);
      ends = run_since (λ p b. OfEnding (ending_of how) (λ h. WatchEndsAs p b (tells_end r) h (seen all))) (λ b begun. record { how = how; by_is = refl; holds = ends_after state how b (w.after b begun) });
    }

    -- what is left of it
    pub left_of : (bytes : List ℕ) → HasSaved code (IsBegunAfter code begins) bytes part → IsLeftOf r (seen all) f.program bytes
    left_of bytes s = record {
      fits = (code, f.code_is, s.fits);
      is = λ b before. record { code = code; is_code = f.code_is; saved = stands_after (λ t e l. IsSavedAs code b.options (b.bytes ++ t) bytes) (s.saved b (begun b before)) };
    }

    -- ---- what it shows
    module _ (w : Watched code.system (IsBegunAfter code begins) (tells_end r) (taken_at begins) (most_bytes begins) part) (only_state : ReadsNothing more) (stops : StopsAtFailure (part ++ more)) where
      reads_trace : ReadsSlot Trace (Opened Trace r.trace ∷ (part ++ more))
      reads_trace = record {
        only = trace_only;
        opens_first = opening_first Trace (Opened Trace r.trace) (part ++ more) (Each-append (λ did. IsOpening Trace did → ⊥) part more (no_opening_in Trace part moves) (a.unopened Trace));
        opens_only = λ at other. (apart_none Trace at other, Each-append (λ did. IsOpening at did → ⊥) part more (no_opening_in at part moves) (a.unopened at));
        ends = at_more Trace (λ before. ended Trace before ≡ false) (Opened Trace r.trace ∷ part) more
            (at_after Trace (λ less. ended Trace less ≡ false) (λ less. ended Trace less ≡ false) (Opened Trace r.trace ∷ []) part (tt, tt) (λ less is. is) w.ends) (a.unread Trace);
        limits = λ before at. tt;
        pieces = (tt, Each-append (IsWithin MOST_PIECE_BYTES) part more (each_work (IsWithin MOST_PIECE_BYTES) (λ bytes short. short) (λ bytes. tt) tt tt part work) only_state.pieces);
        stops = at_each_join IsDone (Opened Trace r.trace ∷ []) (part ++ more) (tt, tt) stops;
        silent = (tt, Each-append (IsNoGift Err) part more (each_work (IsNoGift Err) (λ bytes short. tt) (λ bytes. refl) tt refl part work) only_state.silent);
      }

      begins_due : (b : Before) → P b → BeginsDue code.system b te all
      begins_due b begun = let partly = (w.after b begun).partly in record {
        text = partly.text;
        due = stands_after (λ t e l. IsDue code.system b.options (b.bytes ++ t) (te && e) (b.text ++ partly.text)) partly.due;
        begins = stands_after (λ t e l. Begins l partly.text) partly.begins;
      }

      -- before a read
      may_read : AtReads Trace (λ less. CanRead less × ReadsOnly Trace less) part
      may_read less entry = (
        (λ b begun. (w.after b begun).reads less entry, w.within less entry),
        λ at other. at_fewer IsAny (IsRead Trace) (Each (IsNoRead at)) part (λ did is. tt) (at_each (IsNoRead at) part (work_only at other)) less entry,
      )

      at_trace : (Q : Seen → Type 0) → ((less : List Did) → ReadsOnly Trace less → CanRead less → Q (seen (front ++ Opened Trace r.trace ∷ less)))
          → AtReads Trace (λ less. Q (seen (front ++ less))) trace_part
      at_trace Q says =
          at_more Trace (λ less. Q (seen (front ++ less))) (Opened Trace r.trace ∷ part) more
          (at_after Trace (λ less. CanRead less × ReadsOnly Trace less) (λ less. Q (seen (front ++ less))) (Opened Trace r.trace ∷ []) part (tt, tt)
          (λ less h. says less h.1 h.0) may_read) (a.unread Trace)

      pub shows_after : (creations more ≡ []) ⊎ (creations more ≡ made_files c) → AtEntries IsCreation (λ less. MayMake (Some c) (seen (front ++ Opened Trace r.trace ∷ (part ++ less)))) more → IsOn (Some c) all channel.State
          → Each (IsNoGift channel.Code) more → Shows (Some c) all
      shows_after makes may_make state no_code =
          shows_tail c (front_files r) front f.is (trace_after r) refl trace_part trace_only
          (then_slot c (front_files r) front f.is Trace r.trace (trace_after r) [] (trace_next r) (run_judged r code begins front f) trace_part reads_trace)
          (opens_next c (front_files r) front f.is Trace r.trace (trace_after r) [] (trace_next r) trace_part (inr opened_after))
          (subst (λ (l : List (Channel × List ℕ)). (l ≡ []) ⊎ (l ≡ made_files c)) (sym made_after) makes)
          (at_join IsCreation (λ less. MayMake (Some c) (seen (front ++ less))) (Opened Trace r.trace ∷ part) more
          (at_not IsCreation (λ less. MayMake (Some c) (seen (front ++ less))) (Opened Trace r.trace ∷ part) ((λ (no : ⊥). no), no_creation_in part moves)) may_make)
          (at_trace (IsDueAtRead (Some c)) due_at) (at_trace (GoesOnAtRead (Some c)) goes_on_at)
          (partly_of (Some c) all
          (inr (run_since (λ p b. BeginsAs p b (tells_end r) (seen all)) (λ b begun. begins_as f.program f.can code f.code_is b te all (begins_due b begun)))) state
          (inl (nothing_given all channel.Code (no_other_gift channel.Code refl no_code))))

  -- ---- all of it
  shows_watched : (part : List Did) → Watched code.system (IsBegunAfter code begins) (tells_end r) (taken_at begins) (most_bytes begins) part → Shows (Some c) (front ++ Opened Trace r.trace ∷ part)
  shows_watched part w =
      subst (λ (l : List Did). Shows (Some c) (front ++ Opened Trace r.trace ∷ l)) (append-nil part)
      (shows_after part w.work [] aside_none w (record { unread = λ at. tt; unopened = λ at. tt; pieces = tt; stops = at_none IsAny (Each IsDone); silent = tt })
      (subst StopsAtFailure (sym (append-nil part)) w.stops) (inl refl) (at_none IsCreation _)
      (inl (nothing_given (front ++ Opened Trace r.trace ∷ (part ++ [])) channel.State (no_other_gift part w.work [] aside_none channel.State refl tt))) tt)

  -- the state that is left goes to its file
  module _ (part : List Did) (w : Watched code.system (IsBegunAfter code begins) (tells_end r) (taken_at begins) (most_bytes begins) part) (engine_at : engine.State) (h : HasWatched code.system (IsBegunAfter code begins) (tells_end r) engine_at run.Done part)
      (file state : List ℕ) (named : r.save ≡ Some file) (saved : HasSaved code (IsBegunAfter code begins) state part) (put : List Did) (puts : PutsFile channel.State file state put) where
    facts : FileFacts channel.State file state put
    facts = file_facts channel.State file state put puts

    aside : IsAside put
    aside = aside_put file state put puts

    saves_made : creations put ≡ made_files c
    saves_made = facts.makes ∙ ap (λ (f : Option (List ℕ)). named_at channel.State f) (sym named)

    saves_begun : BeginsSaved r.save r (seen (front ++ Opened Trace r.trace ∷ (part ++ put)))
    saves_begun = let x = seen (front ++ Opened Trace r.trace ∷ (part ++ put)) in
        subst (λ (f : Option (List ℕ)). BeginsSaved f r x) (sym named) (
          ended_all part w.work put aside ∙ h.read refl,
          of_run part w.work put aside (λ p. (bytes : List ℕ) × IsLeftOf r x p bytes × Begins (x.given channel.State) bytes)
              (state, left_of part w.work put aside state saved, subst (λ (l : List ℕ). Begins l state) (sym (given_more part w.work put aside)) facts.some),
        )

    shows_saved : Shows (Some c) (front ++ Opened Trace r.trace ∷ (part ++ put))
    shows_saved =
        shows_after part w.work put aside w (record { unread = facts.unread; unopened = facts.unopened; pieces = facts.pieces; stops = facts.stops; silent = facts.elsewhere Err refl })
        (at_each_join IsDone part put h.done facts.stops) (inr saves_made)
        (λ less entry. finishes part w.work less (at_fewer IsAny IsCreation IsAside put (λ did is. tt) (aside_before put aside) less entry) engine_at run.Done h)
        (inr saves_begun) (facts.elsewhere channel.Code refl)

  pub shows_code : (part : List Did) → RunsCode r.trace code begins (is_some r.save) part → Shows (Some c) (front ++ part)
  shows_code _ idle = subst (λ (l : List Did). Shows (Some c) l) (sym (append-nil front)) (shows_front c (front_files r) front f.is (trace_after r) refl)
  shows_code _ no_trace = shows_no_trace c (front_files r) front f.is (trace_after r) refl (run_judged r code begins front f) r.trace (trace_next r)
  shows_code _ (watched part w) = shows_watched part w

  pub shows_put : (ran : Ran) (file state : List ℕ) (part put : List Did) → CodeEnds r.trace code begins (is_some r.save) r.stats ran part → r.save ≡ Some file → ran.state ≡ Some state → PutsFile channel.State file state put
      → Shows (Some c) (front ++ (part ++ put))
  shows_put ran file state _ put (ends e part set order w h leaves told) named left puts =
      let is = left_done code P ran.ending state part (is_some r.save) (subst (λ (s : Option (List ℕ)). Leaves code P (is_some r.save) ran.ending s part) left leaves) in
      shows_saved part w e (subst (λ (how : RunEnding). HasWatched code.system P te e how part) is.0 h) file state named is.1 put puts

-- ---- from the file of what runs on

-- it is read, as far as it comes
shows_opening : (r : Run) (part : List Did) → ReadsOrigin r.origin part → Shows (Some (command.Run r)) part
shows_opening r part reads =
    shows_first (command.Run r) (origin_file r.origin).0 (most_from r.origin) (limit_of r.origin) (other_slot r.origin) (origin_file r.origin).1 (named_at State r.resume ++ (Trace, r.trace) ∷ []) refl
    (origin_judged r r.origin (seen [])) part reads

-- a run, from how it begins on
shows_from : (r : Run) (code : Code) (begins : Start) (front : List Did) → RunFront r code begins front → (part : List Did) → RunsFrom r code begins part → Shows (Some (command.Run r)) (front ++ part)
shows_from r code begins front f part (monitors runs) = shows_code r code begins front f part runs
shows_from r code begins front f part (saves ran file state first put so named left puts is) =
    subst (λ (l : List Did). Shows (Some (command.Run r)) (front ++ l)) (sym is) (shows_put r code begins front f ran file state first put so named left puts)

module _ (r : Run) (reads : List Did) (read : ReadsFile (origin_file r.origin).0 (most_from r.origin) reads) (bytes : List ℕ) (g : GivesFile (origin_file r.origin).0 (most_from r.origin) bytes reads) where
  abbrev at_origin : List Did
  at_origin = origin_part r reads read bytes g

  module _ (code : Code) (loaded_so : IsLoadedCode r.origin bytes code) (file : List ℕ) (named : r.resume ≡ Some file) where
    shows_state : (part : List Did) → ReadsName State MOST_STATE_BYTES file part → Shows (Some (command.Run r)) (at_origin ++ part)
    shows_state part reads_state =
        shows_reading (command.Run r) (origin_file r.origin ∷ []) at_origin (origin_front r reads read bytes g) State file (state_apart r.origin, tt) ((Trace, r.trace) ∷ []) (state_next r file named)
        (program_judged r reads read bytes g code loaded_so) MOST_STATE_BYTES refl refl (trace_apart r.origin, tt) part reads_state

    shows_resumed : (part : List Did) → RunsFile State MOST_STATE_BYTES file (λ state. RunsSource (RunsResumed r code state)) part → Shows (Some (command.Run r)) (at_origin ++ part)
    shows_resumed _ (unread part reads_state) = shows_state part reads_state
    shows_resumed _ (whole state_reads rest state state_read gives (uncompiled none)) =
        subst (λ (l : List Did). Shows (Some (command.Run r)) (at_origin ++ Opened State file ∷ l)) (sym (ap (λ (l : List Did). state_reads ++ l) none ∙ append-nil state_reads))
        (shows_state (Opened State file ∷ state_reads) (reading state_reads state_read))
    shows_resumed _ (whole state_reads rest state state_read gives (compiled so)) =
        subst (λ (l : List Did). Shows (Some (command.Run r)) l) (state_append r reads read bytes g file named state_reads state_read state gives rest)
        (shows_from r code so.begins (state_part r reads read bytes g file named state_reads state_read state gives)
        (resumed_front r reads read bytes g file named state_reads state_read state gives code loaded_so so.begins so.resumed) rest so.runs)

  shows_since : (code : Code) → IsLoadedCode r.origin bytes code → (resume : Option (List ℕ)) → r.resume ≡ resume → (part : List Did) → RunsSince resume r code part → Shows (Some (command.Run r)) (at_origin ++ part)
  shows_since code loaded_so None none part runs = shows_from r code (start.Anew (options_of r)) at_origin (anew_front r reads read bytes g none code loaded_so) part runs
  shows_since code loaded_so (Some file) named part runs = shows_resumed code loaded_so file named part runs

  shows_loaded : (rest : List Did) → RunsSource (Monitors bytes r) rest → Shows (Some (command.Run r)) (at_origin ++ rest)
  shows_loaded rest (uncompiled none) =
      subst (λ (l : List Did). Shows (Some (command.Run r)) (Opened (origin_file r.origin).0 (origin_file r.origin).1 ∷ l)) (sym (ap (λ (l : List Did). reads ++ l) none ∙ append-nil reads))
      (shows_opening r at_origin (reading reads read))
  shows_loaded rest (compiled m) = shows_since m.code m.loaded_so r.resume refl rest m.runs

pub shows_trace : (r : Run) (part : List Did) → Does (command.Run r) part → Shows (Some (command.Run r)) part
shows_trace r _ (unread part reads) = shows_opening r part reads
shows_trace r _ (whole reads rest bytes read g does) = shows_loaded r reads read bytes g rest does
