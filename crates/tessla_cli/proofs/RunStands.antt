-- What stands where a run over a trace ends, and what is told before its line.
use Rattle.std.proofs.Common.{◌≡◌, inl, inr, ℕ, Bool, true, false, List, [], ◌∷◌, ◌++◌, refl, sym, ◌∙◌, ap, subst, Option, Some, None, IsTrue, slice_index}
use Rattle.std.specs.Prelude.{is_some, not}
use Rattle.command_words.specs.declared.command.Command.TheVariants as command
use Rattle.command_words.specs.declared.command.Run.{Run}
use Rattle.flat_core.specs.System.{System}
use Rattle.monitor_run.specs.inner.State as engine
use Rattle.register_code.specs.Code.{Code}
use Rattle.state_snapshot.specs.declared.fault.StateFault.{StateFault}
use Rattle.trace_monitor.specs.declared.ending.RunEnding.{RunEnding}
use Rattle.trace_monitor.specs.declared.ending.RunEnding.TheVariants as run
use Rattle.trace_run.specs.declared.run.Ran.{Ran}
use Rattle.trace_run.specs.declared.start.Start.{Start}
use Rattle.trace_run.specs.declared.start.Start.TheVariants as start
use Rattle.trace_run.specs.Before.{Before}
use Rattle.trace_run.specs.Effects.{CodeEnds, HasSaved, HasWatched, IsTraceWork, Leaves, ends}
use Rattle.trace_run.specs.Starts.{IsBegunAfter}
use Rattle.trace_run.specs.Statistics.{counted_text, statistics_text}
use Rattle.trace_run.proofs.CanBeRun.{code_system}
use Rattle.tsl_world.specs.declared.outside.Channel.{Channel}
use Rattle.tsl_world.specs.declared.outside.Channel.TheVariants as channel
use Rattle.tsl_world.specs.declared.outside.Channel.TheVariants.{Out}
use Rattle.tsl_world.specs.declared.outside.Did.{Did}
use Rattle.tsl_world.specs.declared.outside.Did.TheVariants.{Opened}
use Rattle.tsl_world.specs.declared.outside.Slot.TheVariants.{State, Trace}
use Rattle.tsl_world.specs.Journal.{given, creations, same_channel, Each}
use Rattle.tsl_world.specs.Seen.{Seen, seen}
use Rattle.tsl_world.proofs.Untouched.{creations_none, gifts_transfer}
use Rattle.tessla_cli.specs.declared.ended.Ended.{Ended}
use Rattle.tessla_cli.specs.declared.ending.Ending.{Ending}
use Rattle.tessla_cli.specs.declared.ending.Ending.TheVariants as ending
use Rattle.tessla_cli.specs.declared.limits.TheConstants.{MOST_STATE_BYTES}
use Rattle.tessla_cli.specs.Asked.{named_at, options_of, origin_file}
use Rattle.tessla_cli.specs.Causes.{HoldsAt, IsStateFault, Refuses, RefusesState, RunCause, Stands, StateCause}
use Rattle.tessla_cli.specs.Endings.{ending_of}
use Rattle.tessla_cli.specs.Finished.{IsLeftOf, RunFinishes, SavesState}
use Rattle.tessla_cli.specs.Outcome.{IsCountedAs, IsToldBefore, counted, refused_before, unasked}
use Rattle.tessla_cli.specs.Stages.{AreWhole, Stage, at_program, at_state, at_work, is_silent, made_at, opened_at, stage_of, whole_at}
use Rattle.tessla_cli.specs.inner.RunPhases.{EndsSince, GivesFile, HasPutFile, HasRunFrom, HasSavedTo, IsLoadedCode, ReadsFile, ResumedEnds, RunEnds, has_put_all, has_resumed, has_run, has_saved, most_from, nothing_runs, nothing_saved, state_refused, whole_ends}
use Rattle.tessla_cli.proofs.Fronts.{nothing_given}
use Rattle.tessla_cli.proofs.Loading.{of_program, refusal_is}
use Rattle.tessla_cli.proofs.Refused.{IsToldBy, done_speaks, never, program_early, refused_stands, run_at_work}
use Rattle.tessla_cli.proofs.RunFronts.{RunFront, anew_front, front_files, origin_front, origin_part, resumed_front, state_append, state_front, state_origin_taken, state_part, state_taken}
use Rattle.tessla_cli.proofs.RunShows.{IsAside, aside_none, aside_saved, begun, finishes, given_more, left_done, left_of, made_all, no_other_gift, of_run, opened_all, statistics_after, whole_all}

-- where a run ends in its trace, the other channels than Out are silent
run_silent : (how : RunEnding) (x : Seen) → ((to : Channel) → same_channel Out to ≡ false → x.given to ≡ []) → (to : Channel) → IsTrue (is_silent (ending_of how) to) → x.given to ≡ []
run_silent run.Done x others to is = done_speaks to is
run_silent (run.Trace fault) x others channel.Out is = never is
run_silent (run.Fault t k p) x others channel.Out is = never is
run_silent (run.Limit n t) x others channel.Out is = never is
run_silent how x others channel.Err is = others channel.Err refl
run_silent how x others channel.State is = others channel.State refl
run_silent how x others channel.Code is = others channel.Code refl

-- where nothing is left of a run, it is not to be saved, or not all was done
module _ (r : Run) where
  none_saved : (x : Seen) (save : Option (List ℕ)) (how : RunEnding) → (how ≡ run.Done → save ≡ None) → SavesState save r x (ending_of how)
  none_saved x None how none = tt
  none_saved x (Some file) run.Done none = absurd (let e : Some file ≡ None = none refl in cc)
  none_saved x (Some file) (run.Trace fault) none = tt
  none_saved x (Some file) (run.Fault t k p) none = tt
  none_saved x (Some file) (run.Limit n t) none = tt

  none_made : (how : RunEnding) → (how ≡ run.Done → r.save ≡ None) → [] ≡ made_at (ending_of how) (command.Run r)
  none_made run.Done none = ap (named_at channel.State) (sym (none refl))
  none_made (run.Trace fault) none = refl
  none_made (run.Fault t k p) none = refl
  none_made (run.Limit n t) none = refl

-- all was done only where something is left of a run that is saved
left_or_unsaved : (c : Code) (P : Before → Type 0) (part : List Did) (save : Option (List ℕ)) (how : RunEnding) → Leaves c P (is_some save) how None part → how ≡ run.Done → save ≡ None
left_or_unsaved c P part None how leaves is = refl
left_or_unsaved c P part (Some file) how leaves is = absurd (subst (λ (h : RunEnding). Leaves c P true h None part) is leaves)

-- what a file was put into was made, and has its text
put_given : (file text : List ℕ) (part : List Did) → HasPutFile channel.State file text part → given channel.State part ≡ text
put_given file text _ (has_put_all part w done is) = is

put_made : (file text : List ℕ) (part : List Did) → HasPutFile channel.State file text part → creations part ≡ (channel.State, file) ∷ []
put_made file text _ (has_put_all part w done is) = ap (λ (l : List (Channel × List ℕ)). (channel.State, file) ∷ l) (creations_none part (gifts_transfer channel.State part w.gifts))

-- ---- a run over a trace, after all that stands before it in the journal
module _ (r : Run) (code : Code) (begins : Start) (front : List Did) (f : RunFront r code begins front) (part : List Did) (work : Each IsTraceWork part) (state : engine.State) (how : RunEnding)
    (watched : HasWatched code.system (IsBegunAfter code begins) (not (is_some r.save)) state how part) where
  module _ (more : List Did) (a : IsAside more) where
    abbrev x : Seen
    x = seen (front ++ Opened Trace r.trace ∷ (part ++ more))

    stands_with : (by : Ending) → stage_of by ≡ at_work → RunFinishes r x by → SavesState r.save r x by → creations more ≡ made_at by (command.Run r)
        → ((to : Channel) → IsTrue (is_silent by to) → x.given to ≡ []) → Stands (Some (command.Run r)) by x
    stands_with by at finished saved made silent = record {
      holds = subst (λ (s : Stage). HoldsAt s (Some (command.Run r)) x by) (sym at) (finished, saved);
      opens = opened_all r code begins front f part work more a ∙ ap (λ (s : Stage). opened_at s (command.Run r)) (sym at);
      whole = subst (λ (s : Stage). AreWhole (whole_at s (command.Run r)) x) (sym at) (whole_all r code begins front f part work more a);
      makes = made_all r code begins front f part work more a ∙ made;
      silent = silent;
    }

  -- nothing is left of it
  unsaved_stands : (how ≡ run.Done → r.save ≡ None) → Stands (Some (command.Run r)) (ending_of how) (x [] aside_none)
  unsaved_stands none =
      stands_with [] aside_none (ending_of how) (run_at_work how) (finishes r code begins front f part work [] aside_none state how watched) (none_saved r (x [] aside_none) r.save how none) (none_made r how none)
      (run_silent how (x [] aside_none) (λ to other. nothing_given (front ++ Opened Trace r.trace ∷ (part ++ [])) to (no_other_gift r code begins front f part work [] aside_none to other tt)))

  -- or its state, which was saved
  saved_stands : (file text : List ℕ) → r.save ≡ Some file → how ≡ run.Done → HasSaved code (IsBegunAfter code begins) text part → (more : List Did) (a : IsAside more) → HasPutFile channel.State file text more
      → Stands (Some (command.Run r)) (ending_of how) (x more a)
  saved_stands file text named is_done saved more a put =
      let finished = subst (λ (h : RunEnding). RunFinishes r (x more a) (ending_of h)) is_done (finishes r code begins front f part work more a state how watched) in
      let given_is : (x more a).given channel.State ≡ text = given_more r code begins front f part work more a ∙ put_given file text more put in
      let left : SavesState (Some file) r (x more a) ending.Done =
      of_run r code begins front f part work more a (λ p. IsLeftOf r (x more a) p ((x more a).given channel.State))
      (subst (IsLeftOf r (x more a) f.program) (sym given_is) (left_of r code begins front f part work more a text saved)) in
      subst (λ (h : RunEnding). Stands (Some (command.Run r)) (ending_of h) (x more a)) (sym is_done)
      (stands_with more a ending.Done refl finished (subst (λ (save : Option (List ℕ)). SavesState save r (x more a) ending.Done) (sym named) left)
      (put_made file text more put ∙ ap (named_at channel.State) (sym named)) (λ to is. done_speaks to is))

-- ---- a run that begins so
module _ (r : Run) (code : Code) (begins : Start) (front : List Did) (f : RunFront r code begins front) (ran : Ran) where
  stands_left : (save left : Option (List ℕ)) → r.save ≡ save → ran.state ≡ left → (part more : List Did) → CodeEnds r.trace code begins (is_some r.save) r.stats ran part → HasSavedTo save left more
      → Stands (Some (command.Run r)) (ending_of ran.ending) (seen (front ++ (part ++ more)))
  stands_left save _ named left_is _ _ (ends state part set order w e leaves told) (nothing_saved) =
      let none = left_or_unsaved code (IsBegunAfter code begins) part r.save ran.ending (subst (λ (l : Option (List ℕ)). Leaves code (IsBegunAfter code begins) (is_some r.save) ran.ending l part) left_is leaves) in
      unsaved_stands r code begins front f part w.work state ran.ending e none
  stands_left _ _ named left_is _ _ (ends state part set order w e leaves told) (has_saved {file = file} {state = text} more put) =
      let some = left_done code (IsBegunAfter code begins) ran.ending text part (is_some r.save) (subst (λ (l : Option (List ℕ)). Leaves code (IsBegunAfter code begins) (is_some r.save) ran.ending l part) left_is leaves) in
      saved_stands r code begins front f part w.work state ran.ending e file text named some.0 some.1 more (aside_saved (Some file) (Some text) more (has_saved more put)) put

  -- what is told of the updates, with statistics or without
  told_left : (stats : Bool) → r.stats ≡ stats → (part more : List Did) → IsAside more → CodeEnds r.trace code begins (is_some r.save) r.stats ran part
      → IsToldBefore (Some (command.Run r)) (ending_of ran.ending) (seen (front ++ (part ++ more))) ran.statistics
  told_left false is _ more a (ends state part set order w e leaves told) = unasked is (told ∙ ap (counted_text code.system state) is)
  told_left true is _ more a (ends state part set order w e leaves told) =
      let x = seen (front ++ Opened Trace r.trace ∷ (part ++ more)) in
      let text_is = told ∙ ap (counted_text code.system state) is in
      counted r refl is (of_run r code begins front f part w.work more a (λ p. IsCountedAs r (ending_of ran.ending) x p ran.statistics) record {
        counts = λ u. slice_index state.ledger u;
        text_is = text_is ∙ ap (λ (s : System). statistics_text s (λ u. slice_index state.ledger u)) (code_system f.program code f.code_is);
        are = λ b is_before. record {
          how = ran.ending;
          by_is = refl;
          holds = statistics_after r code begins front f part w.work more a state set ran.ending b ran.statistics (e.after b (begun r code begins front f part w.work more a b is_before)) text_is;
        };
      })

module _ (r : Run) (code : Code) (begins : Start) (front : List Did) (f : RunFront r code begins front) (by : Ended) where
  from_stands : (rest : List Did) → HasRunFrom r code begins by rest → Stands (Some (command.Run r)) by.ending (seen (front ++ rest))
  from_stands rest h =
      subst (λ (l : List Did). Stands (Some (command.Run r)) by.ending (seen (front ++ l))) (sym h.is)
      (subst (λ (b : Ending). Stands (Some (command.Run r)) b (seen (front ++ (h.front ++ h.rest)))) (sym h.ending)
      (stands_left r code begins front f h.ran r.save h.ran.state refl refl h.front h.rest h.ends h.saved))

  from_before : (rest : List Did) → HasRunFrom r code begins by rest → IsToldBy (Some (command.Run r)) by (seen (front ++ rest))
  from_before rest h = record {
    before = h.ran.statistics;
    is_before =
        subst (λ (l : List Did). IsToldBefore (Some (command.Run r)) by.ending (seen (front ++ l)) h.ran.statistics) (sym h.is)
        (subst (λ (b : Ending). IsToldBefore (Some (command.Run r)) b (seen (front ++ (h.front ++ h.rest))) h.ran.statistics) (sym h.ending)
        (told_left r code begins front f h.ran r.stats refl h.front h.rest (aside_saved r.save h.ran.state h.rest h.saved) h.ends));
    text_is = h.told;
  }

-- ---- after the file of what runs
refusal_early : (r : Run) (bytes : List ℕ) (by : Ending) → Refuses r.origin bytes by → stage_of by ≡ at_program
refusal_early r bytes by refused = elim (refusal_is r.origin bytes by refused) [
  | inl (fault, is) ↦ ap stage_of is
  | inr (fault, is) ↦ ap stage_of is
]

refusal_cause : (r : Run) (by : Ending) (x : Seen) → Refuses r.origin (x.taken (origin_file r.origin).0) by → RunCause r x by
refusal_cause r by x refused = elim (refusal_is r.origin (x.taken (origin_file r.origin).0) by refused) [
  | inl (fault, is) ↦ subst (RunCause r x) (sym is) (subst (Refuses r.origin (x.taken (origin_file r.origin).0)) is refused)
  | inr (fault, is) ↦ subst (RunCause r x) (sym is) (subst (Refuses r.origin (x.taken (origin_file r.origin).0)) is refused)
]

state_early : {fault : StateFault} (by : Ending) → by ≡ ending.State fault → stage_of by ≡ at_work → ⊥
state_early by is at = absurd (let e : at_state ≡ at_work = sym (ap stage_of is) ∙ at in cc)

module _ (r : Run) (reads : List Did) (read : ReadsFile (origin_file r.origin).0 (most_from r.origin) reads) (bytes : List ℕ) (g : GivesFile (origin_file r.origin).0 (most_from r.origin) bytes reads) where
  abbrev before_trace : List Did
  before_trace = origin_part r reads read bytes g

  module _ (code : Code) (loaded_so : IsLoadedCode r.origin bytes code) (by : Ended) where
    -- after that of the state
    module _ (file : List ℕ) (named : r.resume ≡ Some file) (states : List Did) (read_state : ReadsFile State MOST_STATE_BYTES states) (state : List ℕ) (g_state : GivesFile State MOST_STATE_BYTES state states) where
      abbrev both : List Did
      both = state_part r reads read bytes g file named states read_state state g_state

      state_cause : (fault : StateFault) → IsStateFault code state fault → StateCause r (seen both) fault
      state_cause fault is =
          of_program bytes (seen both) r.origin loaded_so.program loaded_so.is (state_origin_taken r reads read bytes g file named states read_state state g_state) (λ p. RefusesState r.resume p (seen both) fault)
          (subst (λ (resume : Option (List ℕ)). RefusesState resume loaded_so.program (seen both) fault) (sym named)
          (code, loaded_so.code, subst (λ (l : List ℕ). IsStateFault code l fault) (sym (state_taken r reads read bytes g file named states read_state state g_state)) is))

      resumed_stands : (rest : List Did) → ResumedEnds r code by state rest → Stands (Some (command.Run r)) by.ending (seen (both ++ rest))
      resumed_stands rest (state_refused fault by_is is line none) =
          subst (λ (b : Ending). Stands (Some (command.Run r)) b (seen (both ++ rest))) (sym by_is)
          (refused_stands (command.Run r) (front_files r) both (state_front r reads read bytes g file named states read_state state g_state code loaded_so) (ending.State fault) (state_early (ending.State fault) refl) refl
          (state_cause fault is) rest none)
      resumed_stands rest (has_resumed begins is h) = from_stands r code begins both (resumed_front r reads read bytes g file named states read_state state g_state code loaded_so begins is) by rest h

      resumed_before : (rest : List Did) → ResumedEnds r code by state rest → IsToldBy (Some (command.Run r)) by (seen (both ++ rest))
      resumed_before rest (state_refused fault by_is is line none) = record { before = []; is_before = refused_before (state_early by.ending by_is) refl; text_is = line }
      resumed_before rest (has_resumed begins is h) = from_before r code begins both (resumed_front r reads read bytes g file named states read_state state g_state code loaded_so begins is) by rest h

    since_stands : (resume : Option (List ℕ)) → r.resume ≡ resume → (rest : List Did) → EndsSince resume r code by rest → Stands (Some (command.Run r)) by.ending (seen (before_trace ++ rest))
    since_stands None named rest h = from_stands r code (start.Anew (options_of r)) before_trace (anew_front r reads read bytes g named code loaded_so) by rest h
    since_stands (Some file) named _ (whole_ends states rest state read_state g_state e) =
        subst (λ (l : List Did). Stands (Some (command.Run r)) by.ending (seen l)) (state_append r reads read bytes g file named states read_state state g_state rest)
        (resumed_stands file named states read_state state g_state rest e)

    since_before : (resume : Option (List ℕ)) → r.resume ≡ resume → (rest : List Did) → EndsSince resume r code by rest → IsToldBy (Some (command.Run r)) by (seen (before_trace ++ rest))
    since_before None named rest h = from_before r code (start.Anew (options_of r)) before_trace (anew_front r reads read bytes g named code loaded_so) by rest h
    since_before (Some file) named _ (whole_ends states rest state read_state g_state e) =
        subst (λ (l : List Did). IsToldBy (Some (command.Run r)) by (seen l)) (state_append r reads read bytes g file named states read_state state g_state rest)
        (resumed_before file named states read_state state g_state rest e)

  pub trace_stands : (by : Ended) (rest : List Did) → RunEnds bytes r by rest → Stands (Some (command.Run r)) by.ending (seen (before_trace ++ rest))
  trace_stands by rest (nothing_runs refused line none) =
      let early = refusal_early r bytes by.ending refused in
      refused_stands (command.Run r) (origin_file r.origin ∷ []) before_trace (origin_front r reads read bytes g) by.ending (program_early by.ending early) (ap (λ (s : Stage). whole_at s (command.Run r)) early)
      (refusal_cause r by.ending (seen before_trace) (subst (λ (l : List ℕ). Refuses r.origin l by.ending) (sym g.bytes_are) refused)) rest none
  trace_stands by rest (has_run h) = since_stands h.code h.loaded_so by r.resume refl rest h.ends

  pub trace_before : (by : Ended) (rest : List Did) → RunEnds bytes r by rest → IsToldBy (Some (command.Run r)) by (seen (before_trace ++ rest))
  trace_before by rest (nothing_runs refused line none) =
      record { before = []; is_before = refused_before (program_early by.ending (refusal_early r bytes by.ending refused)) refl; text_is = line }
  trace_before by rest (has_run h) = since_before h.code h.loaded_so by r.resume refl rest h.ends
