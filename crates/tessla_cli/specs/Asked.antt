-- What a command opens and makes, what it is told at its end, and how far a run goes.
use Rattle.std.specs.Prelude.{ℕ, Bool, false, List, [], ◌∷◌, Option, Some, None, is_some, not}
use Rattle.std.specs.Option.{option_map_or}
use Rattle.command_words.specs.declared.command.Command.{Command}
use Rattle.command_words.specs.declared.command.Command.TheVariants as command
use Rattle.command_words.specs.declared.command.Origin.{Origin}
use Rattle.command_words.specs.declared.command.Origin.TheVariants as origin
use Rattle.command_words.specs.declared.command.Form.TheVariants as form
use Rattle.command_words.specs.declared.command.Run.{Run}
use Rattle.command_words.specs.declared.command.Why.{Why}
use Rattle.trace_monitor.specs.declared.options.Options.{Options}
use Rattle.tsl_world.specs.declared.outside.Channel.{Channel}
use Rattle.tsl_world.specs.declared.outside.Channel.TheVariants as channel
use Rattle.tsl_world.specs.declared.outside.Slot.{Slot}
use Rattle.tsl_world.specs.declared.outside.Slot.TheVariants as slot

-- the file that what runs comes from
abbrev pub origin_file : Origin → Slot × List ℕ
origin_file (origin.Spec name) = (slot.Spec, name)
origin_file (origin.Code name) = (slot.Code, name)

-- the file of a name, where one is named
abbrev pub named_at : {A : Type 0} → A → Option (List ℕ) → List (A × List ℕ)
named_at at None = []
named_at at (Some name) = (at, name) ∷ []

-- the file that is read whole first
abbrev pub program_files : Command → List (Slot × List ℕ)
program_files (command.Write spec form) = (slot.Spec, spec) ∷ []
program_files (command.Run r) = origin_file r.origin ∷ []
program_files (command.Why w) = (slot.Spec, w.spec) ∷ []
program_files c = []

-- after it the state that a run goes on from
abbrev pub state_files : Command → List (Slot × List ℕ)
state_files (command.Run r) = named_at slot.State r.resume
state_files c = []

-- and after these the trace
abbrev pub trace_files : Command → List (Slot × List ℕ)
trace_files (command.Run r) = (slot.Trace, r.trace) ∷ []
trace_files (command.Why w) = (slot.Trace, w.trace) ∷ []
trace_files c = []

-- what is made: the file of the code, or that of the state
abbrev pub made_files : Command → List (Channel × List ℕ)
made_files (command.Write spec (form.File name)) = (channel.Code, name) ∷ []
made_files (command.Run r) = named_at channel.State r.save
made_files c = []

-- nothing where the words are not accepted
abbrev pub for_asked : {A : Type 0} → (Command → List A) → Option Command → List A
for_asked files c = option_map_or files c []

-- a run with statistics is asked for
abbrev pub asks_statistics : Option Command → Bool
asks_statistics (Some (command.Run r)) = r.stats
asks_statistics c = false

-- The end of its trace is told to a run that does not save its state. The trace of one that does is a first part, and goes on.
abbrev pub tells_end : Run → Bool
tells_end r = not (is_some r.save)

-- how far a run goes that begins
abbrev pub options_of : Run → Options
options_of r = record { until = r.until; instants = r.instants; bytes = r.bytes; strict = r.strict }

-- and a question: no time is closed after the last line of its trace
abbrev pub why_options : Why → Options
why_options w = record { until = 0; instants = w.instants; bytes = w.bytes; strict = w.strict }
