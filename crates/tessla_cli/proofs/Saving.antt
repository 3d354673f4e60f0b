-- What a run makes, what it goes on from, and what is left of it.
use Rattle.std.proofs.Common.{◌≡◌, ◌<◌, ◌^◌, ℕ, Bool, false, List, [], ◌∷◌, ◌++◌, refl, sym, ◌∙◌, ap, subst, Option, Some, None, is_some}
use Rattle.std.proofs.lemmas.List.{append-nil}
use Rattle.command_words.specs.declared.command.Run.{Run}
use Rattle.register_code.specs.Code.{Code}
use Rattle.trace_monitor.specs.declared.ending.RunEnding.{RunEnding}
use Rattle.trace_run.specs.Effects.{CodeEnds, ends, IsTraceWork, Leaves, RunsCode, idle, no_trace, watched}
use Rattle.trace_run.specs.Starts.{CanStart, IsBegunAfter}
use Rattle.trace_run.specs.declared.run.Ran.{Ran}
use Rattle.trace_run.specs.declared.start.Start.{Start}
use Rattle.tsl_world.specs.Journal.{creations, same_channel, IsTransfer}
use Rattle.tsl_world.specs.Standing.{Standing, is_writable}
use Rattle.tsl_world.specs.declared.outside.Channel.{Channel}
use Rattle.tsl_world.specs.declared.outside.Channel.TheVariants.{Out, Err, State, Code as CodeFile}
use Rattle.tsl_world.specs.declared.outside.Did.{Did}
use Rattle.tsl_world.specs.declared.outside.Did.TheVariants.{Opened, Took, Gave, NotTook, NotGave}
use Rattle.tsl_world.specs.declared.outside.Slot.{Slot}
use Rattle.tsl_world.proofs.Journals.{creations-append, each_more}
use Rattle.tsl_world.proofs.Untouched.{creations_none}
use Rattle.tessla_cli.specs.Conduct.{MakesNothing}
use Rattle.tessla_cli.specs.Endings.{ending_of}
use Rattle.tessla_cli.specs.declared.ended.Ended.{Ended}
use Rattle.tessla_cli.specs.inner.RunPhases.{GivesName, given_name, HasPutFile, HasRunFrom, HasSavedTo, has_saved, nothing_saved, IsResumed, IsTake, IsToldAfter, ReadsName, RunsFrom, SavesTo, monitors, no_file, reading, saves, unopened}

-- ---- where no file is made
work_transfer : (did : Did) → IsTraceWork did → IsTransfer did
work_transfer (Took from bytes) work = tt
work_transfer (Gave to bytes) work = tt
work_transfer (NotTook from) work = tt
work_transfer (NotGave to) work = tt
work_transfer did work = absurd work

take_transfer : (from : Slot) (did : Did) → IsTake from did → IsTransfer did
take_transfer from (Took at bytes) take = tt
take_transfer from (NotTook at) take = tt
take_transfer from did take = absurd take

pub trace_makes_none : (trace : List ℕ) (c : Code) (begins : Start) (keeps : Bool) (part : List Did) → RunsCode trace c begins keeps part → MakesNothing part
trace_makes_none trace c begins keeps _ idle = refl
trace_makes_none trace c begins keeps _ no_trace = refl
trace_makes_none trace c begins keeps _ (watched part w) = creations_none part (each_more IsTraceWork IsTransfer work_transfer part w.work)

module _ (from : Slot) (most : ℕ) (name : List ℕ) where
  pub name_makes_none : (part : List Did) → ReadsName from most name part → MakesNothing part
  name_makes_none _ unopened = refl
  name_makes_none _ no_file = refl
  name_makes_none _ (reading reads r) = creations_none reads (each_more (IsTake from) IsTransfer (take_transfer from) reads r.only)

  pub file_makes_none : (bytes : List ℕ) (p q : List Did) → GivesName from most name bytes p → MakesNothing q → MakesNothing (p ++ q)
  file_makes_none bytes _ q (given_name reads r g) none =
      creations-append (Opened from name ∷ reads) q ∙ ap (λ (l : List (Channel × List ℕ)). l ++ creations q) (name_makes_none (Opened from name ∷ reads) (reading reads r)) ∙ none

-- A channel that may not be written yet, as each that a file is made for, is not Err.
pub unmade_elsewhere : (s : Standing) (to : Channel) → is_writable s to ≡ false → same_channel to Err ≡ false
unmade_elsewhere s Out is = absurd (cc)
unmade_elsewhere s Err is = is
unmade_elsewhere s State is = refl
unmade_elsewhere s CodeFile is = refl

-- ---- how a run begins
pub can_start : (c : Code) (until : ℕ) (bytes : List ℕ) (begins : Start) → until < 2 ^ 63 → IsResumed c until bytes begins → CanStart c begins
can_start c until bytes begins few is = subst (CanStart c) (sym is.begins_so) (few, is.fits)

-- ---- what is left of a run
pub put_saved : (file left : Option (List ℕ)) (name text : List ℕ) → file ≡ Some name → left ≡ Some text → (part : List Did) → HasPutFile State name text part → HasSavedTo file left part
put_saved file left name text is kept part put =
    subst (λ (f : Option (List ℕ)). HasSavedTo f left part) (sym is) (subst (λ (l : Option (List ℕ)). HasSavedTo (Some name) l part) (sym kept) (has_saved part put))

pub none_saved : (file left : Option (List ℕ)) → left ≡ None → HasSavedTo file left []
none_saved file left none = subst (λ (l : Option (List ℕ)). HasSavedTo file l []) (sym none) nothing_saved

module _ (r : Run) (c : Code) (begins : Start) (ran : Ran) where
  runs_on : (part : List Did) → CodeEnds r.trace c begins (is_some r.save) r.stats ran part → RunsCode r.trace c begins (is_some r.save) part
  runs_on _ (ends e part set order w h leaves statistics) = watched part w

  -- nothing is where it isn't asked for
  none_left : (save : Option (List ℕ)) (how : RunEnding) (left : Option (List ℕ)) (part : List Did) → save ≡ None → Leaves c (IsBegunAfter c begins) (is_some save) how left part → left ≡ None
  none_left None how left part is leaves = leaves
  none_left (Some file) how left part is leaves = absurd (cc)

  pub nothing_unasked : (part : List Did) → CodeEnds r.trace c begins (is_some r.save) r.stats ran part → r.save ≡ None → ran.state ≡ None
  nothing_unasked _ (ends e part set order w h leaves statistics) is = none_left r.save ran.ending ran.state part is leaves

  pub runs_from : (p q : List Did) → CodeEnds r.trace c begins (is_some r.save) r.stats ran p → SavesTo r.save ran.state q → RunsFrom r c begins (p ++ q)
  runs_from p q e puts = go r.save ran.state refl refl puts
    where
      alone : q ≡ [] → RunsFrom r c begins (p ++ q)
      alone none = monitors (subst (RunsCode r.trace c begins (is_some r.save)) (sym (append-nil p) ∙ ap (λ (l : List Did). p ++ l) (sym none)) (runs_on p e))

      go : (save left : Option (List ℕ)) → r.save ≡ save → ran.state ≡ left → SavesTo save left q → RunsFrom r c begins (p ++ q)
      go (Some file) (Some bytes) is kept puts = saves ran file bytes p q e is kept puts refl
      go (Some file) None is kept none = alone none
      go None left is kept none = alone none

  pub has_run_from : (by : Ended) → by.ending ≡ ending_of ran.ending → IsToldAfter ran.statistics by → (p q : List Did)
      → CodeEnds r.trace c begins (is_some r.save) r.stats ran p → ((r.save ≡ None → ran.state ≡ None) → HasSavedTo r.save ran.state q) → HasRunFrom r c begins by (p ++ q)
  has_run_from by ending told p q e saved = record { ran = ran; ending = ending; told = told; front = p; rest = q; ends = e; saved = saved (nothing_unasked p e); is = refl }
