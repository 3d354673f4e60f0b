-- What a run over a trace does to the outside.
use Rattle.std.specs.Prelude.{◌≡◌, ℕ, ◌+◌, ◌≤◌, Bool, true, false, not, ◌&&◌, List, [], ◌∷◌, ◌++◌, length}
use Rattle.std.specs.Prelude.{Option, Some, None, Result, OnOk, OnErr}
use Rattle.flat_core.specs.System.{System}
use Rattle.monitor_run.specs.inner.State as engine
use Rattle.register_code.specs.Code.{Code}
use Rattle.trace_monitor.specs.Counted.{HasCounted}
use Rattle.trace_monitor.specs.declared.ending.RunEnding.{RunEnding}
use Rattle.trace_monitor.specs.declared.ending.RunEnding.TheVariants as run
use Rattle.trace_monitor.specs.declared.options.Options.{Options}
use Rattle.trace_monitor.specs.Due.{IsDue}
use Rattle.trace_monitor.specs.Ending.{GoesOn}
use Rattle.trace_monitor.specs.Next.{EndsBy}
use Rattle.trace_monitor.specs.Saved.{IsSavedAs, SpellsState}
use Rattle.trace_monitor.specs.inner.Kept.{Kept}
use Rattle.trace_monitor.specs.inner.Snapshot.{code_of}
use Rattle.trace_monitor.specs.inner.State.{State}
use Rattle.trace_monitor.specs.inner.Waits.{Waits}
use Rattle.trace_reader.specs.declared.limits.TheConstants.{MOST_PIECE_BYTES}
use Rattle.tsl_value.specs.declared.limits.TheConstants.{MOST_INSTANTS, MOST_TRACE_BYTES}
use Rattle.tsl_world.specs.Begins.{Begins, BeginsStrictly}
use Rattle.tsl_world.specs.declared.outside.Channel.{Channel}
use Rattle.tsl_world.specs.declared.outside.Channel.TheVariants.{Out}
use Rattle.tsl_world.specs.declared.outside.Did.{Did}
use Rattle.tsl_world.specs.declared.outside.Did.TheVariants.{Opened, NotOpened, Took, Gave, NotTook, NotGave}
use Rattle.tsl_world.specs.declared.outside.Slot.TheVariants.{Trace}
use Rattle.tsl_world.specs.Journal.{given, taken, ended, AtReads, IsDone, IsGift, Each, StopsAtEnd, StopsAtFailure}
use Rattle.trace_run.specs.Before.{Before}
use Rattle.trace_run.specs.Starts.{IsBegunAfter, most_bytes, taken_at}
use Rattle.trace_run.specs.declared.run.Ran.{Ran}
use Rattle.trace_run.specs.declared.start.Start.{Start}
use Rattle.trace_run.specs.Statistics.{counted_text}

-- the channel is written, until a write fails
pub record Writes (to : Channel) (part : List Did) : Type 0 where
  pub gifts : Each (IsGift to) part
  pub stops : StopsAtFailure part

-- These bytes are given to the channel, all of them at Ok, and else a beginning that is not all.
pub record Gives {E : Type 0} (to : Channel) (bytes : List ℕ) (result : Result (Unit {0}) E) (part : List Did) : Type 0 where
  pub writes : Writes to part
  pub done : OnOk result (Each IsDone part)
  pub some : Begins (given to part) bytes
  pub whole : OnOk result (given to part ≡ bytes)
  pub less : OnErr result (BeginsStrictly (given to part) bytes)

-- a read of the trace, or a write of output
abbrev pub IsTraceWork : Did → Type 0
IsTraceWork (Took at bytes) = (at ≡ Trace) × (length bytes ≤ MOST_PIECE_BYTES)
IsTraceWork (Gave to bytes) = to ≡ Out
IsTraceWork (NotTook at) = at ≡ Trace
IsTraceWork (NotGave to) = to ≡ Out
IsTraceWork did = ⊥

-- The cause of an ending by a system, where the end of the trace is told or not.
abbrev pub EndsWhere : System → Options → List ℕ → Bool → Bool → RunEnding → Type 0
EndsWhere s o bytes true read how = EndsBy s o bytes read how
EndsWhere s o bytes false read run.Done = (read ≡ true) × GoesOn s o bytes
EndsWhere s o bytes false read how = EndsBy s o bytes false how

-- What a run does after what stands before it.
module _ (s : System) (b : Before) where
  -- the trace may be read after this much of the journal: the output text that is due was written, and nothing ends the run
  pub record MayRead (before : List Did) : Type 0 where
    pub due : IsDue s b.options (b.bytes ++ taken Trace before) false (b.text ++ given Out before)
    pub goes_on : GoesOn s b.options (b.bytes ++ taken Trace before)

  module _ (tells_end : Bool) where
    -- the text written begins what all that was taken adds to what is due
    pub record BeginsDue (part : List Did) : Type 0 where
      pub text : List ℕ
      pub due : IsDue s b.options (b.bytes ++ taken Trace part) (tells_end && ended Trace part) (b.text ++ text)
      pub begins : Begins (given Out part) text

    pub record WatchedAfter (part : List Did) : Type 0 where
      pub reads : AtReads Trace MayRead part
      pub partly : BeginsDue part

    -- how it ends: all that is due was written, the ending has its cause, and the engine has counted what it has run
    pub record WatchEnds (e : engine.State) (how : RunEnding) (part : List Did) : Type 0 where
      pub due : IsDue s b.options (b.bytes ++ taken Trace part) (tells_end && ended Trace part) (b.text ++ given Out part)
      pub cause : EndsWhere s b.options (b.bytes ++ taken Trace part) tells_end (ended Trace part) how
      pub counted : HasCounted s b.options (b.bytes ++ taken Trace part) (tells_end && ended Trace part) e how

-- Before each read of the trace no more bytes of it were taken than the limit, with as many as were taken by earlier runs.
abbrev pub ReadsWithin : ℕ → ℕ → List Did → Type 0
ReadsWithin earlier limit part = AtReads Trace (λ before. earlier + length (taken Trace before) ≤ limit) part

-- What a run does from the opening of the trace on, whatever stands before it, of which P holds. Of one before which nothing can stand all
-- but the last holds all the same.
module _ (s : System) (P : Before → Type 0) (tells_end : Bool) where
  pub record Watched (earlier limit : ℕ) (part : List Did) : Type 0 where
    pub work : Each IsTraceWork part
    pub ends : StopsAtEnd Trace part
    pub stops : StopsAtFailure part
    pub within : ReadsWithin earlier limit part
    pub after : (b : Before) → P b → WatchedAfter s b tells_end part

  -- and how it ends
  pub record HasWatched (e : engine.State) (how : RunEnding) (part : List Did) : Type 0 where
    pub done : Each IsDone part
    pub read : how ≡ run.Done → ended Trace part ≡ true
    pub after : (b : Before) → P b → WatchEnds s b tells_end e how part

-- what stands before a monitor that goes on: it stands for those bytes, of which that text is due
pub record StandsAfter (m : State) (b : Before) : Type 0 where
  pub options : b.options ≡ m.options
  pub kept : Kept m b.bytes
  pub due : IsDue m.system m.options b.bytes false b.text
  pub goes_on : GoesOn m.system m.options b.bytes

-- the monitor then stands for all bytes that were taken, where all was done and the end of the trace was not told
abbrev pub KeepsAll : State → State → Bool → RunEnding → List Did → Type 0
KeepsAll old new tells_end how part =
    tells_end ≡ false → how ≡ run.Done → (b : Before) → StandsAfter old b → Kept new (b.bytes ++ taken Trace part)

-- These bytes were saved of a run to which the end of its trace was not told: they spell a state that fits, which is the one after all
-- bytes of the trace.
pub record HasSaved (c : Code) (P : Before → Type 0) (bytes : List ℕ) (part : List Did) : Type 0 where
  pub fits : SpellsState c bytes
  pub saved : (b : Before) → P b → IsSavedAs c b.options (b.bytes ++ taken Trace part) bytes

-- bytes are left that have Q, where they are asked for and all was done, and else nothing
abbrev pub LeavesSome : (List ℕ → Type 0) → Bool → RunEnding → Option (List ℕ) → Type 0
LeavesSome Q true run.Done (Some bytes) = Q bytes
LeavesSome Q true run.Done None = ⊥
LeavesSome Q saves how left = left ≡ None

-- what is left of a run: the bytes of its state
abbrev pub Leaves : Code → (Before → Type 0) → Bool → RunEnding → Option (List ℕ) → List Did → Type 0
Leaves c P saves how left part = LeavesSome (λ bytes. HasSaved c P bytes part) saves how left

-- a monitor of a run that begins so: it runs the code, and stands for whatever the run begins after
pub record IsMonitorOf (c : Code) (start : Start) (m : State) : Type 0 where
  pub code : code_of m ≡ c
  pub waits : Waits m
  pub bytes : most_bytes start ≡ m.options.bytes
  pub taken : taken_at start ≡ m.reader.taken
  pub few_bytes : m.options.bytes ≤ MOST_TRACE_BYTES
  pub few_instants : m.options.instants ≤ MOST_INSTANTS
  pub after : (b : Before) → IsBegunAfter c start b → StandsAfter m b

-- the bytes of a monitor's state
pub record IsStateOf (c : Code) (m : State) (bytes : List ℕ) : Type 0 where
  pub fits : SpellsState c bytes
  pub saved : (fed : List ℕ) → Kept m fed → IsSavedAs c m.options fed bytes

-- the trace of this name is opened and the system monitored, as far as it comes
pub data RunsCode (trace : List ℕ) (c : Code) (start : Start) (saves : Bool) : List Did → Type 0 where
  idle : RunsCode trace c start saves []
  no_trace : RunsCode trace c start saves (NotOpened Trace trace ∷ [])
  watched : (part : List Did) → Watched c.system (IsBegunAfter c start) (not saves) (taken_at start) (most_bytes start) part
      → RunsCode trace c start saves (Opened Trace trace ∷ part)

-- and it ends so, by an engine that runs the code
pub data CodeEnds (trace : List ℕ) (c : Code) (start : Start) (saves statistics : Bool) (ran : Ran) : List Did → Type 0 where
  ends : (e : engine.State) (part : List Did)
      → e.in_place ≡ c.in_place
      → e.order ≡ c.order
      → Watched c.system (IsBegunAfter c start) (not saves) (taken_at start) (most_bytes start) part
      → HasWatched c.system (IsBegunAfter c start) (not saves) e ran.ending part
      → Leaves c (IsBegunAfter c start) saves ran.ending ran.state part
      → ran.statistics ≡ counted_text c.system e statistics
      → CodeEnds trace c start saves statistics ran (Opened Trace trace ∷ part)
