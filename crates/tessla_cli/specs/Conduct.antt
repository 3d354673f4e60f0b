-- What the program does to the outside, as the journal of its calls has it.
use Rattle.std.specs.Prelude.{◌≡◌, ◌⊎◌, ℕ, ⊤, true, false, List, [], length, Option, Some, None}
use Rattle.command_words.specs.declared.command.Command.{Command}
use Rattle.command_words.specs.declared.command.Command.TheVariants as command
use Rattle.command_words.specs.declared.command.Form.TheVariants as form
use Rattle.command_words.specs.declared.command.Run.{Run}
use Rattle.sample_trace.specs.Trace.{trace_text}
use Rattle.trace_reader.specs.declared.limits.TheConstants.{MOST_PIECE_BYTES}
use Rattle.trace_run.specs.Means.{BeginsAs, IsUnhindered, all_of}
use Rattle.trace_why.specs.Meant.{IsAwaitedThere}
use Rattle.tsl_world.specs.Begins.{Begins}
use Rattle.tsl_world.specs.declared.outside.Did.{Did}
use Rattle.tsl_world.specs.declared.outside.Slot.{Slot}
use Rattle.tsl_world.specs.declared.outside.Slot.TheVariants as slot
use Rattle.tsl_world.specs.declared.outside.Slot.TheVariants.{Trace}
use Rattle.tsl_world.specs.declared.outside.Channel.{Channel}
use Rattle.tsl_world.specs.declared.outside.Channel.TheVariants.{Out, Err, State}
use Rattle.tsl_world.specs.Journal.{same_channel, taken, openings, creations, IsCreation, IsDone, IsGift, IsNoFailedGift, IsOpening}
use Rattle.tsl_world.specs.Journal.{IsWithin, AtAll, AtEntries, AtReads, Each, StopsAtEnd}
use Rattle.tsl_world.specs.Seen.{Seen, seen}
use Rattle.tessla_cli.specs.Alone.{IsTallyText}
use Rattle.tessla_cli.specs.declared.ending.Ending.TheVariants as ending
use Rattle.tessla_cli.specs.Asked.{for_asked, made_files, tells_end, why_options}
use Rattle.tessla_cli.specs.Explained.{OfAnswer, OfWhy, answer_text}
use Rattle.tessla_cli.specs.Finished.{IsLeftOf, RunFinishes}
use Rattle.tessla_cli.specs.Printed.{OfText, channel_of}
use Rattle.tessla_cli.specs.Running.{IsWithinBytes, OfProgram, OfRun, OfRunSince}
use Rattle.tessla_cli.specs.Stages.{AreWhole, AreWholeBefore, IsNotPast, at_work, most_of, opened_at, whole_at}

-- Nothing is made.
abbrev pub MakesNothing : List Did → Type 0
MakesNothing part = creations part ≡ []

-- No read of a file that is judged whole follows once more of it was taken than it may have.
abbrev pub StopsAtLimits : List Did → Type 0
StopsAtLimits part = (from : Slot) → AtReads from (λ before. IsNotPast (most_of from) (length (taken from before))) part

-- No read of a file follows its end.
abbrev pub StopsAtEnds : List Did → Type 0
StopsAtEnds part = (from : Slot) → StopsAtEnd from part

-- No read takes more bytes than one may.
abbrev pub ReadsPieces : List Did → Type 0
ReadsPieces part = Each (IsWithin MOST_PIECE_BYTES) part

-- Nothing but a write to Err follows a call that failed, and nothing at all follows a write to Err that failed.
pub record StopsAtFailures (part : List Did) : Type 0 where
  pub silent : AtEntries (λ did. IsGift Err did → ⊥) (Each IsDone) part
  pub last : AtAll (Each (IsNoFailedGift Err)) part

-- What was read whole before a file is opened was judged as well: what runs is accepted where a state is opened, and so is the state where a
-- trace is; and the output is there that is asked for.
abbrev pub IsJudged : Option Command → Slot → Seen → Type 0
IsJudged (Some (command.Run r)) slot.State x = OfProgram r.origin x (λ p. ⊤)
IsJudged (Some (command.Run r)) slot.Trace x = OfRun r x (λ p. ⊤)
IsJudged (Some (command.Why w)) slot.Trace x = OfWhy w x (λ items s q. ⊤)
IsJudged c from x = ⊤

module _ (c : Option Command) where
  -- Nothing is opened but what the words ask for, the file of what runs, then the state that it goes on from, and then the trace, each once
  -- and each whether it could be opened or not.
  abbrev pub OpensAsAsked : List Did → Type 0
  OpensAsAsked part = Begins (openings part) (for_asked (opened_at at_work) c)

  -- So is nothing made but what they ask for.
  abbrev pub MakesAsAsked : List Did → Type 0
  MakesAsAsked part = Begins (creations part) (for_asked made_files c)

  -- A file is opened, and each read of it stands, only after the whole of those that the words name before it, or so much of them that they
  -- are too long: a state after the file of what runs, and the trace after both. It is opened only once these are accepted. Nothing is read
  -- that the words do not name.
  abbrev pub IsTurn : Slot → Seen → Type 0
  IsTurn from x = AreWholeBefore from (for_asked (opened_at at_work) c) x

  pub record TakesInTurn (part : List Did) : Type 0 where
    pub opens : (from : Slot) → AtEntries (IsOpening from) (λ before. IsTurn from (seen before) × IsJudged c from (seen before)) part
    pub reads : (from : Slot) → AtReads from (λ before. IsTurn from (seen before)) part

  -- What the words ask to read whole first was read whole: the file of what runs or is printed and that of the state, where they name them.
  abbrev pub IsAllWhole : Seen → Type 0
  IsAllWhole x = AreWhole (for_asked (whole_at at_work) c) x

  -- Only then is anything given to a channel other than Err.
  abbrev pub WritesLast : List Did → Type 0
  WritesLast part = (to : Channel) → same_channel to Err ≡ false → AtEntries (IsGift to) (λ before. IsAllWhole (seen before)) part

-- A file is made where the specification has the text that it is for, or where a run has come to the end of its trace, nothing stands
-- against it, and all that is due was written.
abbrev pub MayMake : Option Command → Seen → Type 0
MayMake (Some (command.Write spec (form.File name))) x = OfText (form.File name) x (λ text. ⊤)
MayMake (Some (command.Run r)) x = RunFinishes r x ending.Done
MayMake c x = ⊥

-- It is made last of all, when what is read whole was read whole.
abbrev pub MakesLast : Option Command → List Did → Type 0
MakesLast c part = AtEntries IsCreation (λ before. IsAllWhole c (seen before) × MayMake c (seen before)) part

-- No read of the trace follows once the bytes taken hold a refused line, close a fault or pass the limit of instants, nor once they are
-- more than a run may take, whatever state it goes on from. Of a question none follows either once they close the time that is asked for.
abbrev pub GoesOnAtRead : Option Command → Seen → Type 0
GoesOnAtRead (Some (command.Run r)) x =
    OfRunSince r x (λ p b. IsUnhindered p b.options (all_of b x) false) × OfRun r x (λ p. IsWithinBytes r.resume r p x)
GoesOnAtRead (Some (command.Why w)) x = OfWhy w x (λ items s q. IsAwaitedThere items s (why_options w) q (x.taken Trace) false)
GoesOnAtRead c x = ⊥

abbrev pub GoesOnAtReads : Option Command → List Did → Type 0
GoesOnAtReads c part = AtReads Trace (λ before. GoesOnAtRead c (seen before)) part

-- What the file of the state was given begins the state that is left after all that was taken of the trace, whose end was read.
abbrev pub BeginsSaved : Option (List ℕ) → Run → Seen → Type 0
BeginsSaved None r x = ⊥
BeginsSaved (Some file) r x =
    (x.ended Trace ≡ true) × OfRun r x (λ p. (bytes : List ℕ) × IsLeftOf r x p bytes × Begins (x.given State) bytes)

-- What a channel was given begins the text that the words ask to write there, or that is due of all that was taken of the trace.
abbrev pub BeginsOn : Option Command → Seen → Channel → Type 0
BeginsOn (Some (command.Write spec f)) x to = (channel_of f ≡ to) × OfText f x (λ text. Begins (x.given to) text)
BeginsOn (Some (command.Run r)) x Out = OfRunSince r x (λ p b. BeginsAs p b (tells_end r) x)
BeginsOn (Some (command.Run r)) x State = BeginsSaved r.save r x
BeginsOn (Some (command.Why w)) x Out = OfAnswer w x (λ by. Begins (x.given Out) (answer_text by))
BeginsOn (Some (command.Generate n)) x Out = Begins (x.given Out) (trace_text n)
BeginsOn (Some (command.Bench kind n)) x Out = (text : List ℕ) × IsTallyText kind n text × Begins (x.given Out) text
BeginsOn c x to = ⊥

-- Whatever ends the program, this holds of what each channel was given, or it is nothing.
abbrev pub IsPartlyDue : Option Command → Seen → Type 0
IsPartlyDue c x = (to : Channel) → (x.given to ≡ []) ⊎ BeginsOn c x to
