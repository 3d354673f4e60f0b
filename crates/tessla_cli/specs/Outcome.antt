-- What stands for each status of the program.
use Rattle.std.specs.Prelude.{◌≡◌, ◌⊎◌, ℕ, true, false, List, [], ◌++◌, Option, Some}
use Rattle.command_words.specs.declared.command.Command.{Command}
use Rattle.command_words.specs.declared.command.Command.TheVariants as command
use Rattle.command_words.specs.declared.command.Run.{Run}
use Rattle.trace_run.specs.Effects.{Writes}
use Rattle.trace_run.specs.Before.{Before}
use Rattle.trace_run.specs.Means.{all_of, told_of}
use Rattle.trace_run.specs.Program.{Program, system_of}
use Rattle.trace_run.specs.Statistics.{AreStatistics, statistics_text}
use Rattle.tsl_world.specs.declared.broken.Broken.{Broken}
use Rattle.tsl_world.specs.declared.broken.Broken.TheVariants as broken
use Rattle.tsl_world.specs.Begins.{BeginsStrictly}
use Rattle.tsl_world.specs.declared.outside.Did.{Did}
use Rattle.tsl_world.specs.declared.outside.Channel.TheVariants.{Err}
use Rattle.tsl_world.specs.Journal.{given}
use Rattle.tsl_world.specs.Seen.{Seen, seen}
use Rattle.tessla_cli.specs.declared.ended.Ended.{Ended}
use Rattle.tessla_cli.specs.declared.ending.Ending.{Ending}
use Rattle.tessla_cli.specs.Asked.{asks_statistics, tells_end}
use Rattle.tessla_cli.specs.Causes.{Cause, Stands}
use Rattle.tessla_cli.specs.Conduct.{OpensAsAsked, MakesAsAsked, MakesLast, TakesInTurn, StopsAtEnds, StopsAtLimits, ReadsPieces}
use Rattle.tessla_cli.specs.Conduct.{GoesOnAtReads, IsPartlyDue, MakesNothing, StopsAtFailures, WritesLast}
use Rattle.tessla_cli.specs.Endings.{OfEnding}
use Rattle.tessla_cli.specs.Failures.{Failures, NoneFailed, CallFailed, WriteFailed, BothFailed}
use Rattle.tessla_cli.specs.Headline.{IsDueAtReads}
use Rattle.tessla_cli.specs.Messages.{ending_line, broken_line, broken_status, status_of}
use Rattle.tessla_cli.specs.Running.{IsBefore, OfRun}
use Rattle.tessla_cli.specs.Stages.{at_work, stage_of}
use Rattle.tessla_cli.specs.Unseen.{NoUpdateIsSeen}

-- this is what was given to Err
abbrev pub Tells : List ℕ → List Did → Type 0
Tells line part = given Err part ≡ line

-- Status 6: memory ran out. That is all that is told, and no file was made.
pub record RanOut (part : List Did) : Type 0 where
  pub told : Tells (broken_line broken.Memory) part
  pub makes : MakesNothing part

-- A run that was cut short is told by its line. Where a write of that fails, which is counted, nothing more is written.
pub data TellsBroken (by : Broken) (before now : Failures) (status : ℕ) (part : List Did) : Type 0 where
  all_of_broken : status ≡ broken_status by → NoneFailed before now → Writes Err part → Tells (broken_line by) part
      → TellsBroken by before now status part
  some_of_broken : status ≡ 5 → WriteFailed before now → Writes Err part → BeginsStrictly (given Err part) (broken_line by)
      → TellsBroken by before now status part

-- An ending is told by its text in the same way.
pub data TellsEnding (by : Ended) (before now : Failures) (status : ℕ) (part : List Did) : Type 0 where
  all_of_ending : status ≡ status_of by.ending → Writes Err part → Tells by.text part → TellsEnding by before now status part
  some_of_ending : status ≡ 5 → WriteFailed before now → Writes Err part → BeginsStrictly (given Err part) by.text
      → TellsEnding by before now status part

-- The text has a line for each running update of a program, with some numbers. Whatever stands before the run, they are the statistics
-- where it ends so, from the first byte of the first run on.
pub record IsCountedAs (r : Run) (by : Ending) (x : Seen) (p : Program) (text : List ℕ) : Type 0 where
  pub counts : ℕ → ℕ
  pub text_is : text ≡ statistics_text (system_of p) counts
  pub are : (b : Before) → IsBefore r.resume r p x b
      → OfEnding by (λ how. AreStatistics p b.options (all_of b x) (told_of (tells_end r) x) how text)

module _ (c : Option Command) where
  -- This is told before the line of an ending: nothing, or the statistics of a run that was asked for them and did its work.
  pub data IsToldBefore (by : Ending) (x : Seen) (text : List ℕ) : Type 0 where
    unasked : asks_statistics c ≡ false → text ≡ [] → IsToldBefore by x text
    refused_before : (stage_of by ≡ at_work → ⊥) → text ≡ [] → IsToldBefore by x text
    counted : (r : Run) → c ≡ Some (command.Run r) → r.stats ≡ true → OfRun r x (λ p. IsCountedAs r by x p text) → IsToldBefore by x text

  -- The program ends so. Err was given what is told before and then the line of the ending, if it has one.
  pub record Ends (by : Ending) (part : List Did) : Type 0 where
    pub stands : Stands c by (seen part)
    pub before : List ℕ
    pub is_before : IsToldBefore by (seen part) before
    pub told : Tells (before ++ ending_line by) part

  -- The program ends with this status, by an ending that has it: 0 where all was done, 1 where a fault is closed within the limit of
  -- instants, 2 where the words are not accepted, 3 where the specification is refused, 4 where a line of the trace is and no fault and no
  -- limit came at a time closed before it, 7 where one more instant than may be is closed, and none before it has a fault, 8 where the
  -- state that the words name is refused, 9 where the bytes of the code are too many or a code file is refused, 10 where no output has the
  -- name, or none of its events comes at the time that is asked for.
  abbrev pub EndsWith : ℕ → List Did → Type 0
  EndsWith status part = (by : Ending) × (status ≡ status_of by) × Ends by part

  -- Status 5. A call failed, and Err was given the whole line that tells it. Or a write to Err failed, and Err was given less than the
  -- text of which it was: of what tells an ending, or of the line that tells that memory ran out, before which no file was made, or of that
  -- line, where a call had failed before.
  pub data TellsFailure (before now : Failures) (part : List Did) : Type 0 where
    told_failure : CallFailed before now → Tells (broken_line broken.Outside) part → TellsFailure before now part
    untold_ending : WriteFailed before now → (by : Ending) → Stands c by (seen part) → (text : List ℕ) → IsToldBefore by (seen part) text
        → BeginsStrictly (given Err part) (text ++ ending_line by) → TellsFailure before now part
    untold_memory : WriteFailed before now → MakesNothing part → BeginsStrictly (given Err part) (broken_line broken.Memory)
        → TellsFailure before now part
    untold_failure : BothFailed before now → BeginsStrictly (given Err part) (broken_line broken.Outside) → TellsFailure before now part

  -- one of these, by the status
  pub data Outcome (before now : Failures) (status : ℕ) (part : List Did) : Type 0 where
    told : (by : Ending) → status ≡ status_of by → Ends by part → Outcome before now status part
    outside : status ≡ 5 → TellsFailure before now part → Outcome before now status part
    memory : status ≡ 6 → RanOut part → Outcome before now status part

  -- Exactly where: where an ending has its cause, the status is its own, unless the outside failed or memory ran out.
  abbrev pub IsExact : ℕ → Seen → Type 0
  IsExact status x = (by : Ending) → Cause c x by → (status ≡ status_of by) ⊎ (status ≡ 5) ⊎ (status ≡ 6)

  -- what every run shows, whatever its status
  pub record ShowsAlways (part : List Did) : Type 0 where
    pub opens : OpensAsAsked c part
    pub makes : MakesAsAsked c part
    pub makes_last : MakesLast c part
    pub in_turn : TakesInTurn c part
    pub writes_last : WritesLast c part
    pub ends : StopsAtEnds part
    pub limits : StopsAtLimits part
    pub pieces : ReadsPieces part
    pub stops : StopsAtFailures part
    pub due : IsDueAtReads c part
    pub goes_on : GoesOnAtReads c part
    pub partly : IsPartlyDue c (seen part)
    pub unseen : NoUpdateIsSeen c (seen part)

  pub record Concludes (before now : Failures) (status : ℕ) (part : List Did) : Type 0 where
    pub shows : ShowsAlways part
    pub outcome : Outcome before now status part
