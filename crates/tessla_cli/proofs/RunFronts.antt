-- What is known before the trace of a run: the file of what runs was read, and that of the state where the words name one.
use Rattle.std.specs.Prelude.{⊤}
use Rattle.std.proofs.Common.{◌≡◌, ◌+◌, ◌≤◌, ℕ, false, List, [], ◌∷◌, ◌++◌, length, refl, sym, ◌∙◌, ap, subst, append_assoc, arith, Option, Some, None}
use Rattle.command_words.specs.declared.command.Command.TheVariants as command
use Rattle.command_words.specs.declared.command.Origin.{Origin}
use Rattle.command_words.specs.declared.command.Origin.TheVariants as origin
use Rattle.command_words.specs.declared.command.Run.{Run}
use Rattle.register_code.specs.Code.{Code}
use Rattle.trace_monitor.specs.Saved.{IsSavedAs}
use Rattle.trace_run.specs.Before.{Before, nothing_before}
use Rattle.trace_run.specs.Means.{IsDueAs, all_of}
use Rattle.trace_run.specs.Program.{IsCodeOf, Program}
use Rattle.trace_run.specs.Starts.{IsBegunAfter, most_bytes, taken_at}
use Rattle.trace_run.specs.declared.start.Start.{Start}
use Rattle.trace_run.specs.declared.start.Start.TheVariants as start
use Rattle.trace_run.proofs.Begun.{begun_after}
use Rattle.trace_run.proofs.CanBeRun.{CanBeRun}
use Rattle.trace_run.proofs.OneCode.{code_of_run, one_code}
use Rattle.tsl_world.specs.declared.outside.Channel.TheVariants.{Out}
use Rattle.tsl_world.specs.declared.outside.Did.{Did}
use Rattle.tsl_world.specs.declared.outside.Did.TheVariants.{Opened}
use Rattle.tsl_world.specs.declared.outside.Slot.{Slot}
use Rattle.tsl_world.specs.declared.outside.Slot.TheVariants.{State, Trace}
use Rattle.tsl_world.specs.Journal.{taken, same_slot, Each, IsNoRead}
use Rattle.tsl_world.specs.Seen.{Seen, seen}
use Rattle.tsl_world.proofs.Untouched.{taken_after, taken_before}
use Rattle.tessla_cli.specs.declared.limits.TheConstants.{MOST_STATE_BYTES}
use Rattle.tessla_cli.specs.Asked.{named_at, options_of, origin_file}
use Rattle.tessla_cli.specs.Conduct.{IsJudged}
use Rattle.tessla_cli.specs.Headline.{IsDueInRun}
use Rattle.tessla_cli.specs.Running.{CanGoOnFrom, HasState, IsBefore, IsLeftBy, IsWithinBytes, IsWithinState, OfProgram, OfRun, OfRunSince}
use Rattle.tessla_cli.specs.Stages.{at_work, opened_at}
use Rattle.tessla_cli.specs.inner.RunPhases.{GivesFile, IsLoadedCode, IsResumed, ReadsFile, most_from}
use Rattle.tessla_cli.proofs.Fronts.{AreApart, Front, ReadsOnly, each_take, first_front, then_file}
use Rattle.tessla_cli.proofs.Loading.{can_be_run, due_from, limit_of, of_program, of_program_weaker, state_apart, trace_apart}

-- the files of a run that are read whole, before the trace
abbrev pub front_files : Run → List (Slot × List ℕ)
front_files r = origin_file r.origin ∷ named_at State r.resume

state_before : (file : Option (List ℕ)) → AreApart Trace (named_at State file)
state_before None = tt
state_before (Some file) = (refl, tt)

pub trace_after : (r : Run) → AreApart Trace (front_files r)
trace_after r = (trace_apart r.origin, state_before r.resume)

-- the trace is opened after them
pub trace_next : (r : Run) → opened_at at_work (command.Run r) ≡ front_files r ++ (Trace, r.trace) ∷ []
trace_next r = refl

-- and the state after the file of what runs
pub state_next : (r : Run) (file : List ℕ) → r.resume ≡ Some file → opened_at at_work (command.Run r) ≡ (origin_file r.origin ∷ []) ++ (State, file) ∷ ((Trace, r.trace) ∷ [])
state_next r file named = ap (λ (f : Option (List ℕ)). origin_file r.origin ∷ (named_at State f ++ (Trace, r.trace) ∷ [])) named

-- before the file of what runs nothing is judged
pub origin_judged : (r : Run) (from : Origin) (x : Seen) → IsJudged (Some (command.Run r)) (origin_file from).0 x
origin_judged r (origin.Spec name) x = tt
origin_judged r (origin.Code name) x = tt

-- the same was taken of each slot but the trace's
abbrev pub TakesAs : List Did → Seen → Type 0
TakesAs front x = (at : Slot) → same_slot Trace at ≡ false → x.taken at ≡ taken at front

pub takes_as : (front rest : List Did) → ReadsOnly Trace rest → TakesAs front (seen (front ++ rest))
takes_as front rest only at other = taken_before at front rest (only at other)

-- no more bytes of the trace were taken than a run may take that begins so
abbrev pub IsWithinStart : Start → List ℕ → Type 0
IsWithinStart begins bytes = taken_at begins + length bytes ≤ most_bytes begins

-- What is known of the part before the trace of a run that begins so. What is said there stands wherever the same was taken.
pub record RunFront (r : Run) (code : Code) (begins : Start) (front : List Did) : Type 0 where
  pub is : Front (command.Run r) (front_files r) front
  pub program : Program
  pub can : CanBeRun program
  pub code_is : IsCodeOf program code
  pub runs : (x : Seen) → TakesAs front x → OfRun r x (λ p. p ≡ program)
  pub begun : (x : Seen) → TakesAs front x → (b : Before) → IsBefore r.resume r program x b → IsBegunAfter code begins b
  pub due : (x : Seen) → TakesAs front x → ((b : Before) → IsBegunAfter code begins b → IsDueAs program b.options (all_of b x) false (b.text ++ x.given Out)) → IsDueInRun r.resume r x
  pub within : (x : Seen) → TakesAs front x → IsWithinStart begins (x.taken Trace) → OfRun r x (λ p. IsWithinBytes r.resume r p x)

module _ (r : Run) (code : Code) (begins : Start) (front : List Did) (f : RunFront r code begins front) where
  -- a fact about the program is one about the run
  pub of_run_at : (x : Seen) → TakesAs front x → (P : Program → Type 0) → P f.program → OfRun r x P
  of_run_at x same P holds =
      of_program_weaker x r.origin (λ p. HasState r.resume p x × (p ≡ f.program)) (λ p. HasState r.resume p x × P p) (λ p can one. (one.0, subst P (sym one.1) holds)) (f.runs x same)

  -- a fact holds whatever stands before, where it follows from how the run begins
  pub since : (x : Seen) → TakesAs front x → (Q : Program → Before → Type 0) → ((b : Before) → IsBegunAfter code begins b → Q f.program b) → OfRunSince r x Q
  since x same Q says = of_run_at x same (λ p. (b : Before) → IsBefore r.resume r p x b → Q p b) (λ b before. says b (f.begun x same b before))

  -- what runs is accepted where its trace is opened, and so is the state that it goes on from
  pub run_judged : OfRun r (seen front) (λ p. ⊤)
  run_judged = of_run_at (seen front) (λ at other. refl) (λ p. ⊤) tt

-- what stands before a run that goes on from a state stands before it by the state's bytes
pub before_begun : (r : Run) (p : Program) → CanBeRun p → (code : Code) → IsCodeOf p code → (x : Seen) (state : List ℕ) → x.taken State ≡ state → (begins : Start) → IsResumed code r.until state begins
    → (b : Before) → IsLeftBy r p x b → IsBegunAfter code begins b
before_begun r p can code code_is x state same begins resumed b left =
    let saved : IsSavedAs code b.options b.bytes (x.taken State) =
    subst (λ (c : Code). IsSavedAs c b.options b.bytes (x.taken State)) (one_code p left.state.code code left.state.is_code code_is) left.state.saved in
    subst (λ (s : Start). IsBegunAfter code s b) (sym resumed.begins_so)
    (begun_after p can code code_is (code_of_run p can code code_is) r.until resumed.state state b resumed.fits resumed.is left.until_is
    (subst (λ (l : List ℕ). IsSavedAs code b.options b.bytes l) same saved) left.due)

module _ (r : Run) (reads : List Did) (read : ReadsFile (origin_file r.origin).0 (most_from r.origin) reads) (bytes : List ℕ) (g : GivesFile (origin_file r.origin).0 (most_from r.origin) bytes reads) where
  -- the file of what runs, opened and read
  abbrev pub origin_part : List Did
  origin_part = Opened (origin_file r.origin).0 (origin_file r.origin).1 ∷ reads

  pub origin_front : Front (command.Run r) (origin_file r.origin ∷ []) origin_part
  origin_front = first_front (command.Run r) (origin_file r.origin).0 (most_from r.origin) (limit_of r.origin) (origin_file r.origin).1 (named_at State r.resume ++ (Trace, r.trace) ∷ []) refl
      (origin_judged r r.origin (seen [])) reads read bytes g

  module _ (code : Code) (loaded_so : IsLoadedCode r.origin bytes code) where
    runs_at : (x : Seen) → x.taken (origin_file r.origin).0 ≡ bytes → (P : Program → Type 0) → P loaded_so.program → OfProgram r.origin x P
    runs_at x same P holds = of_program bytes x r.origin loaded_so.program loaded_so.is same P holds

    -- what runs is accepted where its state is opened
    pub program_judged : OfProgram r.origin (seen origin_part) (λ p. ⊤)
    program_judged = runs_at (seen origin_part) g.bytes_are (λ p. ⊤) tt

    can_run : CanBeRun loaded_so.program
    can_run = can_be_run bytes r.origin loaded_so.program loaded_so.is

  -- ---- a run that begins
  module _ (none : r.resume ≡ None) (code : Code) (loaded_so : IsLoadedCode r.origin bytes code) where
    taken_then : (x : Seen) → TakesAs origin_part x → x.taken (origin_file r.origin).0 ≡ bytes
    taken_then x same = same (origin_file r.origin).0 (trace_apart r.origin) ∙ g.bytes_are

    within_anew : (x : Seen) → IsWithinStart (start.Anew (options_of r)) (x.taken Trace) → length (x.taken Trace) ≤ r.bytes
    within_anew x few = let same : 0 + length (x.taken Trace) ≤ r.bytes = few in omega arith

    pub anew_front : RunFront r code (start.Anew (options_of r)) origin_part
    anew_front = record {
      is = subst (λ (file : Option (List ℕ)). Front (command.Run r) (origin_file r.origin ∷ named_at State file) origin_part) (sym none) origin_front;
      program = loaded_so.program;
      can = can_run code loaded_so;
      code_is = loaded_so.code;
      runs = λ x same. runs_at code loaded_so x (taken_then x same) (λ p. HasState r.resume p x × (p ≡ loaded_so.program)) (subst (λ (file : Option (List ℕ)). HasState file loaded_so.program x) (sym none) tt, refl);
      begun = λ x same b before. subst (λ (file : Option (List ℕ)). IsBefore file r loaded_so.program x b) none before;
      due = λ x same says. subst (λ (file : Option (List ℕ)). IsDueInRun file r x) (sym none)
          (due_from bytes x r.origin loaded_so.program loaded_so.is (taken_then x same) (options_of r) (says (nothing_before (options_of r)) refl));
      within = λ x same few. runs_at code loaded_so x (taken_then x same) (λ p. HasState r.resume p x × IsWithinBytes r.resume r p x)
          (subst (λ (file : Option (List ℕ)). HasState file loaded_so.program x × IsWithinBytes file r loaded_so.program x) (sym none) (tt, within_anew x few));
    }

  -- ---- a run that goes on from a state
  module _ (file : List ℕ) (named : r.resume ≡ Some file) (state_reads : List Did) (state_read : ReadsFile State MOST_STATE_BYTES state_reads) (state : List ℕ)
      (state_gives : GivesFile State MOST_STATE_BYTES state state_reads) where
    -- both files
    abbrev pub state_part : List Did
    state_part = origin_part ++ (Opened State file ∷ state_reads)

    origin_apart : AreApart State (origin_file r.origin ∷ [])
    origin_apart = (state_apart r.origin, tt)

    no_origin_read : Each (IsNoRead (origin_file r.origin).0) (Opened State file ∷ state_reads)
    no_origin_read = (tt, each_take (IsNoRead (origin_file r.origin).0) State (λ bytes short. state_apart r.origin) (state_apart r.origin) state_reads state_read.only)

    pub state_origin_taken : taken (origin_file r.origin).0 state_part ≡ bytes
    state_origin_taken = taken_before (origin_file r.origin).0 origin_part (Opened State file ∷ state_reads) no_origin_read ∙ g.bytes_are

    pub state_taken : taken State state_part ≡ state
    state_taken = taken_after State origin_part (Opened State file ∷ state_reads) (origin_front.unread State origin_apart) ∙ state_gives.bytes_are

    pub state_append : (rest : List Did) → state_part ++ rest ≡ Opened (origin_file r.origin).0 (origin_file r.origin).1 ∷ (reads ++ (Opened State file ∷ (state_reads ++ rest)))
    state_append rest = append_assoc origin_part (Opened State file ∷ state_reads) rest

    module _ (code : Code) (loaded_so : IsLoadedCode r.origin bytes code) where
      pub state_front : Front (command.Run r) (front_files r) state_part
      state_front =
          subst (λ (f : Option (List ℕ)). Front (command.Run r) (origin_file r.origin ∷ named_at State f) state_part) (sym named)
          (then_file (command.Run r) (origin_file r.origin ∷ []) origin_part origin_front State file origin_apart ((Trace, r.trace) ∷ []) (state_next r file named)
          (program_judged code loaded_so) MOST_STATE_BYTES refl state_reads state_read state state_gives)

    module _ (code : Code) (loaded_so : IsLoadedCode r.origin bytes code) (begins : Start) (resumed : IsResumed code r.until state begins) where
      taken_both : (x : Seen) → TakesAs state_part x → x.taken (origin_file r.origin).0 ≡ bytes
      taken_both x same = same (origin_file r.origin).0 (trace_apart r.origin) ∙ state_origin_taken

      state_of : (x : Seen) → TakesAs state_part x → x.taken State ≡ state
      state_of x same = same State refl ∙ state_taken

      goes_on_from : (x : Seen) → TakesAs state_part x → CanGoOnFrom code (x.taken State)
      goes_on_from x same = subst (λ (l : List ℕ). CanGoOnFrom code l) (sym (state_of x same)) record { short = resumed.short; spells = record { state = resumed.state; fits = resumed.fits; is = resumed.is } }

      run_at : (x : Seen) → TakesAs state_part x → (P : Program → Type 0) → P loaded_so.program → OfRun r x P
      run_at x same P holds = runs_at code loaded_so x (taken_both x same) (λ p. HasState r.resume p x × P p)
          (subst (λ (f : Option (List ℕ)). HasState f loaded_so.program x) (sym named) (code, loaded_so.code, goes_on_from x same), holds)

      begun_at : (x : Seen) → TakesAs state_part x → (b : Before) → IsBefore r.resume r loaded_so.program x b → IsBegunAfter code begins b
      begun_at x same b before =
          before_begun r loaded_so.program (can_run code loaded_so) code loaded_so.code x state (state_of x same) begins resumed b (subst (λ (f : Option (List ℕ)). IsBefore f r loaded_so.program x b) named before)

      within_at : (x : Seen) → TakesAs state_part x → IsWithinStart begins (x.taken Trace) → IsWithinState loaded_so.program x
      within_at x same few = record {
        code = code;
        is_code = loaded_so.code;
        spells = record { state = resumed.state; fits = resumed.fits; is = state_of x same ∙ resumed.is };
        within = subst (λ (s : Start). IsWithinStart s (x.taken Trace)) resumed.begins_so few;
      }

      pub resumed_front : RunFront r code begins state_part
      resumed_front = record {
        is = state_front code loaded_so;
        program = loaded_so.program;
        can = can_run code loaded_so;
        code_is = loaded_so.code;
        runs = λ x same. run_at x same (λ p. p ≡ loaded_so.program) refl;
        begun = begun_at;
        due = λ x same says. subst (λ (f : Option (List ℕ)). IsDueInRun f r x) (sym named)
            (run_at x same (λ p. (b : Before) → IsBefore r.resume r p x b → IsDueAs p b.options (all_of b x) false (b.text ++ x.given Out)) (λ b before. says b (begun_at x same b before)));
        within = λ x same few. run_at x same (λ p. IsWithinBytes r.resume r p x) (subst (λ (f : Option (List ℕ)). IsWithinBytes f r loaded_so.program x) (sym named) (within_at x same few));
      }
