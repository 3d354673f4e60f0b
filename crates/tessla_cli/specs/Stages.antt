-- How far the program came where it ends, what it had opened and read whole there, and what it made.
use Rattle.std.specs.Prelude.{◌≡◌, ◌⊎◌, ◌<◌, ◌≤◌, ℕ, ⊤, Bool, true, false, List, [], ◌∷◌, ◌++◌, length, Option, Some, None}
use Rattle.code_file.specs.declared.limits.TheConstants.{MOST_CODE_BYTES}
use Rattle.command_words.specs.declared.command.Command.{Command}
use Rattle.spec_lexer.specs.declared.limits.TheConstants.{MOST_SOURCE_BYTES}
use Rattle.tsl_world.specs.declared.outside.Channel.{Channel}
use Rattle.tsl_world.specs.declared.outside.Channel.TheVariants as channel
use Rattle.tsl_world.specs.declared.outside.Slot.{Slot}
use Rattle.tsl_world.specs.declared.outside.Slot.TheVariants as slot
use Rattle.tsl_world.specs.Journal.{same_slot}
use Rattle.tsl_world.specs.Seen.{Seen}
use Rattle.tessla_cli.specs.declared.limits.TheConstants.{MOST_STATE_BYTES}
use Rattle.tessla_cli.specs.Asked.{made_files, program_files, state_files, trace_files}
use Rattle.tessla_cli.specs.declared.ending.Ending.{Ending}
use Rattle.tessla_cli.specs.declared.ending.Ending.TheVariants as ending

-- to the words, to what runs, to the state that it goes on from, or to its work
pub data Stage : Type 0 where
  at_words : Stage
  at_program : Stage
  at_state : Stage
  at_work : Stage

abbrev pub stage_of : Ending → Stage
stage_of ending.Words = at_words
stage_of (ending.Spec fault) = at_program
stage_of (ending.Code fault) = at_program
stage_of (ending.NoOutput name) = at_program
stage_of (ending.State fault) = at_state
stage_of by = at_work

-- the files that were read whole there
abbrev pub whole_at : Stage → Command → List (Slot × List ℕ)
whole_at at_words c = []
whole_at at_program c = program_files c
whole_at stage c = program_files c ++ state_files c

-- and those that were opened
abbrev pub opened_at : Stage → Command → List (Slot × List ℕ)
opened_at at_work c = whole_at at_work c ++ trace_files c
opened_at stage c = whole_at stage c

-- how much of a file may be taken that is judged whole
abbrev pub most_of : Slot → Option ℕ
most_of slot.Spec = Some MOST_SOURCE_BYTES
most_of slot.Code = Some MOST_CODE_BYTES
most_of slot.State = Some MOST_STATE_BYTES
most_of from = None

-- so much is more than that, or not
abbrev pub IsPast : Option ℕ → ℕ → Type 0
IsPast None n = ⊥
IsPast (Some most) n = most < n

abbrev pub IsNotPast : Option ℕ → ℕ → Type 0
IsNotPast None n = ⊤
IsNotPast (Some most) n = n ≤ most

-- The file of a slot was read to its end. What is longer than it may be is judged without its end.
abbrev pub HasWhole : Slot → Seen → Type 0
HasWhole from x = (x.ended from ≡ true) ⊎ IsPast (most_of from) (length (x.taken from))

abbrev pub AreWhole : List (Slot × List ℕ) → Seen → Type 0
AreWhole [] x = ⊤
AreWhole (file ∷ files) x = HasWhole file.0 x × AreWhole files x

-- What is read whole before a file in this slot is opened or read: each file that is named before it. Where none is named in the slot,
-- nothing is opened in it or read.
abbrev pub AreWholeBefore : Slot → List (Slot × List ℕ) → Seen → Type 0
AreWholeBefore from [] x = ⊥
AreWholeBefore from (file ∷ files) x = (same_slot file.0 from ≡ true) ⊎ (HasWhole file.0 x × AreWholeBefore from files x)

-- Only what is done whole makes its file.
abbrev pub made_at : Ending → Command → List (Channel × List ℕ)
made_at ending.Done c = made_files c
made_at by c = []

-- Nothing is given to the channel where the program ends so. A run that ends in its trace has written what is due before. Of Err nothing
-- is said here.
abbrev pub is_silent : Ending → Channel → Bool
is_silent by channel.Err = false
is_silent ending.Done to = false
is_silent (ending.Trace fault) channel.Out = false
is_silent (ending.Fault time kind place) channel.Out = false
is_silent (ending.Limit count time) channel.Out = false
is_silent by to = true
