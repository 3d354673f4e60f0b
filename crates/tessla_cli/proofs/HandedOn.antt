-- A run that goes on from what another has saved.
use Rattle.std.proofs.Common.{◌≡◌, ℕ, Bool, false, ◌&&◌, List, ◌++◌, refl, sym, ap, subst, Option}
use Rattle.std.specs.Prelude.{is_some, not}
use Rattle.command_words.specs.declared.command.Run.{Run}
use Rattle.register_code.specs.Code.{Code}
use Rattle.trace_monitor.specs.declared.options.Options.{Options}
use Rattle.trace_monitor.specs.Saved.{IsRunAfter, IsSavedAs}
use Rattle.trace_monitor.specs.Ending.{GoesOn}
use Rattle.run_state.specs.declared.state.RunState.{RunState}
use Rattle.trace_run.specs.Before.{Before}
use Rattle.trace_run.specs.Means.{IsDueAs, WatchEndsAs, all_of}
use Rattle.trace_run.specs.Program.{Program, coded, specified}
use Rattle.tsl_world.specs.declared.outside.Channel.TheVariants as channel
use Rattle.tsl_world.specs.declared.outside.Slot.TheVariants.{State, Trace}
use Rattle.tsl_world.specs.Seen.{Seen}
use Rattle.tessla_cli.specs.Asked.{tells_end}
use Rattle.tessla_cli.specs.declared.ending.Ending.{Ending}
use Rattle.tessla_cli.specs.declared.ending.Ending.TheVariants as ending
use Rattle.tessla_cli.specs.Endings.{OfEnding}
use Rattle.tessla_cli.specs.Finished.{IsLeftOf, RunFinishes, SavesState}
use Rattle.tessla_cli.specs.Running.{HasState, IsBefore, IsLeftBy, IsStateOf, OfProgram, OfRun}
use Rattle.tessla_cli.specs.inner.SavedLaws.{EndsAsOne, IsHandedOn, IsProgramOf, PartsAreOneRun, SavedRunsGoOn, StandsBeforeLater, with_run}
use Rattle.tessla_cli.proofs.Loading.{one_program}

-- ---- up to which time is closed at the end of a trace makes no difference before that end is told
module _ (o : Options) (until : ℕ) (bytes : List ℕ) where
  abbrev other : Options
  other = record o { until = until }

  goes_on_as_well : (c : Code) → GoesOn c.system o bytes → GoesOn c.system other bytes
  goes_on_as_well c goes_on = record { accepted = goes_on.accepted; quiet = record { solved = goes_on.quiet.solved; each = goes_on.quiet.each } }

  after_as_well : (c : Code) (st : RunState) → IsRunAfter c o bytes st → IsRunAfter c other bytes st
  after_as_well c st after = record {
    goes_on = goes_on_as_well c after.goes_on;
    options = record { strict = after.options.strict; instants = after.options.instants; bytes = after.options.bytes };
    reader = after.reader;
    bound = after.bound;
    monitor = after.monitor;
  }

  saved_as_well : (c : Code) (state : List ℕ) → IsSavedAs c o bytes state → IsSavedAs c other bytes state
  saved_as_well c state saved = record { state = saved.state; after = after_as_well c saved.state saved.after; fits = saved.fits; is = saved.is }

  state_as_well : (p : Program) (state : List ℕ) → IsStateOf p o bytes state → IsStateOf p other bytes state
  state_as_well p state is = record { code = is.code; is_code = is.is_code; saved = saved_as_well is.code state is.saved }

  due_as_well : (p : Program) (text : List ℕ) → IsDueAs p o bytes false text → IsDueAs p other bytes false text
  due_as_well (specified items s) text due = due
  due_as_well (coded c) text due = record { solved = due.solved; is = due.is }

-- what holds of what runs holds of this program
program_has : (r : Run) (x : Seen) (p : Program) (P : Program → Type 0) → IsProgramOf r x p → OfProgram r.origin x P → P p
program_has r x p P is holds = let one = one_program x r.origin (λ q. q ≡ p) P is holds in subst P one.one one.other

module _ (r : Run) (x : Seen) (later : Run) (y : Seen) (p : Program) (b : Before) (h : IsHandedOn r x later y) (runs : IsProgramOf r x p) (before : IsBefore r.resume r p x b) where
  -- ---- what the run has done and left
  untold : tells_end r ≡ false
  untold = ap (λ (f : Option (List ℕ)). not (is_some f)) h.saves

  ended_so : OfEnding ending.Done (λ how. WatchEndsAs p b (tells_end r) how x)
  ended_so =
      (program_has r x p (λ q. HasState r.resume q x × ((c : Before) → IsBefore r.resume r q x c → OfEnding ending.Done (λ how. WatchEndsAs q c (tells_end r) how x))) runs h.done.0.ends).1 b before

  due : IsDueAs p b.options (all_of b x) false (b.text ++ x.given channel.Out)
  due = subst (λ (t : Bool). IsDueAs p b.options (all_of b x) (t && x.ended Trace) (b.text ++ x.given channel.Out)) untold ended_so.holds.due

  saved : OfRun r x (λ q. IsLeftOf r x q (x.given channel.State))
  saved = subst (λ (f : Option (List ℕ)). SavesState f r x ending.Done) h.saves h.done.1

  left : IsStateOf p b.options (all_of b x) (x.given channel.State)
  left = (program_has r x p (λ q. HasState r.resume q x × IsLeftOf r x q (x.given channel.State)) runs saved).1.is b before

  -- ---- the later run
  left_by : IsLeftBy later p y (with_run b x later.until)
  left_by = record {
    until_is = refl;
    short = h.short;
    state = subst (λ (l : List ℕ). IsStateOf p (other b.options later.until (all_of b x)) (all_of b x) l) (sym h.taken)
        (state_as_well b.options later.until (all_of b x) p (x.given channel.State) left);
    due = due_as_well b.options later.until (all_of b x) p (b.text ++ x.given channel.Out) due;
  }

  stands_before : StandsBeforeLater r x later y p b
  stands_before = subst (λ (f : Option (List ℕ)). IsBefore f later p y (with_run b x later.until)) (sym h.resumes) left_by

  ends_as_one : IsProgramOf later y p → (by : Ending) → RunFinishes later y by → EndsAsOne r x later y p b by
  ends_as_one runs_too by finishes =
      (program_has later y p (λ q. HasState later.resume q y × ((c : Before) → IsBefore later.resume later q y c → OfEnding by (λ how. WatchEndsAs q c (tells_end later) how y))) runs_too finishes.ends).1
      (with_run b x later.until) stands_before

pub saved_runs_go_on : SavedRunsGoOn
saved_runs_go_on r x later y p b h runs before = stands_before r x later y p b h runs before

pub parts_are_one_run : PartsAreOneRun
parts_are_one_run r x later y p b by h runs before runs_too finishes = ends_as_one r x later y p b h runs before runs_too by finishes.0
