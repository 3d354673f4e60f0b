-- What a run has saved, a later one goes on from: before that one stands all that stood before this one, and all that it had.
use Rattle.std.specs.Prelude.{◌≡◌, ◌≤◌, ℕ, List, ◌++◌, length, Some}
use Rattle.command_words.specs.declared.command.Command.TheVariants as command
use Rattle.command_words.specs.declared.command.Run.{Run}
use Rattle.trace_run.specs.Before.{Before}
use Rattle.trace_run.specs.Means.{WatchEndsAs, all_of}
use Rattle.trace_run.specs.Program.{Program}
use Rattle.tsl_world.specs.declared.outside.Channel.TheVariants as channel
use Rattle.tsl_world.specs.declared.outside.Slot.TheVariants as slot
use Rattle.tsl_world.specs.Seen.{Seen}
use Rattle.tessla_cli.specs.Asked.{tells_end}
use Rattle.tessla_cli.specs.Causes.{Finishes}
use Rattle.tessla_cli.specs.declared.ending.Ending.{Ending}
use Rattle.tessla_cli.specs.declared.ending.Ending.TheVariants as ending
use Rattle.tessla_cli.specs.declared.limits.TheConstants.{MOST_STATE_BYTES}
use Rattle.tessla_cli.specs.Endings.{OfEnding}
use Rattle.tessla_cli.specs.Running.{IsBefore, OfProgram}

-- This is what runs.
abbrev pub IsProgramOf : Run → Seen → Program → Type 0
IsProgramOf r x p = OfProgram r.origin x (λ q. q ≡ p)

-- A run has done all, its state included, and a later one takes as its state what this one has given to the file of its own.
pub record IsHandedOn (r : Run) (x : Seen) (later : Run) (y : Seen) : Type 0 where
  pub file : List ℕ
  pub saves : r.save ≡ Some file
  pub done : Finishes (Some (command.Run r)) x ending.Done
  pub from : List ℕ
  pub resumes : later.resume ≡ Some from
  pub taken : y.taken slot.State ≡ x.given channel.State
  pub short : length (y.taken slot.State) ≤ MOST_STATE_BYTES

-- After what stood before a run stand the bytes that it took of its trace, and the text that it gave to Out. The later run closes times at
-- the end of its trace as its own words say.
abbrev pub with_run : Before → Seen → ℕ → Before
with_run b x until =
    record { options = record b.options { until = until }; bytes = all_of b x; text = b.text ++ x.given channel.Out }

-- Two runs, the program of the first, and something that stands before that one.
module _ (r : Run) (x : Seen) (later : Run) (y : Seen) (p : Program) (b : Before) where
  -- something stands before what goes on from a saved state: just that
  abbrev pub StandsBeforeLater : Type 0
  StandsBeforeLater = IsBefore later.resume later p y (with_run b x later.until)

  -- The texts that both have printed, one after the other, are due of what both took of their traces, one after the other, after what stood
  -- before; and the cause of the later run's ending is in these bytes.
  abbrev pub EndsAsOne : Ending → Type 0
  EndsAsOne by = OfEnding by (λ how. WatchEndsAs p (with_run b x later.until) (tells_end later) how y)

-- Whatever stood before a run that has saved its state, something stands before each run that goes on from it.
abbrev pub SavedRunsGoOn : Type 0
SavedRunsGoOn =
    (r : Run) (x : Seen) (later : Run) (y : Seen) (p : Program) (b : Before)
    → IsHandedOn r x later y
    → IsProgramOf r x p
    → IsBefore r.resume r p x b
    → StandsBeforeLater r x later y p b

-- So where the later run is one of the same program and ends, both are as one run.
abbrev pub PartsAreOneRun : Type 0
PartsAreOneRun =
    (r : Run) (x : Seen) (later : Run) (y : Seen) (p : Program) (b : Before) (by : Ending)
    → IsHandedOn r x later y
    → IsProgramOf r x p
    → IsBefore r.resume r p x b
    → IsProgramOf later y p
    → Finishes (Some (command.Run later)) y by
    → EndsAsOne r x later y p b by
