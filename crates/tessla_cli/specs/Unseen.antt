-- THE HEADLINE'S LAST CLAUSE: no update that is listed in place copies an element or changes a register that is still read.
use Rattle.std.specs.Prelude.{⊤, List, Option, Some}
use Rattle.command_words.specs.declared.command.Command.{Command}
use Rattle.command_words.specs.declared.command.Command.TheVariants as command
use Rattle.command_words.specs.declared.command.Origin.{Origin}
use Rattle.command_words.specs.declared.command.Origin.TheVariants as origin
use Rattle.flat_core.specs.System.{System}
use Rattle.compiled_meaning.specs.Compiled.{Compiles}
use Rattle.register_code.specs.Code.{Code}
use Rattle.syntax_tree.specs.Tree as tree
use Rattle.trace_monitor.specs.Due.{bound_in, lines_in}
use Rattle.trace_monitor.specs.Ending.{InAll}
use Rattle.trace_run.specs.Before.{Before}
use Rattle.trace_run.specs.Means.{all_of, told_of}
use Rattle.trace_run.specs.Program.{Program, coded, specified, system_of}
use Rattle.trace_run.specs.Unseen.{UpdatesUnseen}
use Rattle.tsl_world.specs.Seen.{Seen}
use Rattle.tsl_world.specs.declared.outside.Slot.TheVariants as slot
use Rattle.tessla_cli.specs.Asked.{tells_end}
use Rattle.tessla_cli.specs.Running.{IsBefore, IsReadAs}

-- whichever program the file of what runs is, as far as it was taken
abbrev pub ForRun : Origin → Seen → (Program → Type 0) → Type 0
ForRun (origin.Spec name) x P = (items : List tree.Item) (s : System) → Compiles (x.taken slot.Spec) items s → P (specified items s)
ForRun (origin.Code name) x P = (c : Code) → IsReadAs (x.taken slot.Code) c → P (coded c)

-- For the system that is run, over all of the trace that was taken and what stands before it, for all streams that solve it at the closed
-- times: of a run that goes on from a state, from the first time of the first run on.
abbrev pub NoUpdateIsSeen : Option Command → Seen → Type 0
NoUpdateIsSeen (Some (command.Run r)) x = ForRun r.origin x (λ p. (b : Before) → IsBefore r.resume r p x b → let s = system_of p in
    let bytes = all_of b x in
    let is_end = told_of (tells_end r) x in
    InAll s b.options bytes is_end (λ z.
    UpdatesUnseen p (lines_in s b.options bytes is_end) (bound_in s b.options bytes is_end) z))
NoUpdateIsSeen c x = ⊤
