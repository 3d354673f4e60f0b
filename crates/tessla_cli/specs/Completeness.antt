-- COMPLETENESS: what nothing stands against is done whole, unless the outside failed or memory ran out.
use Rattle.std.specs.Prelude.{◌≡◌, ◌⊎◌, ℕ, ⊤, true, List, ◌++◌, Option, Some}
use Rattle.command_words.specs.declared.command.Command.{Command}
use Rattle.command_words.specs.declared.command.Command.TheVariants as command
use Rattle.trace_run.specs.Means.{IsUnhindered, all_of, told_of}
use Rattle.tsl_world.specs.Begins.{Begins}
use Rattle.tsl_world.specs.Seen.{Seen}
use Rattle.tsl_world.specs.declared.outside.Slot.TheVariants.{Trace}
use Rattle.tessla_cli.specs.Alone.{IsTallyText}
use Rattle.tessla_cli.specs.Asked.{tells_end}
use Rattle.tessla_cli.specs.Causes.{WhyCause}
use Rattle.tessla_cli.specs.declared.ending.Ending.TheVariants as ending
use Rattle.tessla_cli.specs.Printed.{AllowsForm}
use Rattle.tessla_cli.specs.Running.{InRun, OfSource}

-- A whole trace of which this much was taken, and all of it where its end was read.
pub record IsWholeTrace (x : Seen) (whole : List ℕ) : Type 0 where
  pub begins : Begins (x.taken Trace) whole
  pub ends : x.ended Trace ≡ true → whole ≡ x.taken Trace

-- Nothing in what was taken stands against what is asked for: the specification is accepted and has the text, or what runs is accepted, a
-- run has left the state that is named, and nothing in the trace ends a run before its end; or the event is due that is asked for, and
-- nothing ends the question before its time; or there is a tally.
abbrev pub CanEnd : Option Command → Seen → Type 0
CanEnd (Some (command.Write spec f)) x = OfSource x (λ items s. AllowsForm f s)
CanEnd (Some (command.Run r)) x = InRun r x (λ p b. IsUnhindered p b.options (all_of b x) (told_of (tells_end r) x))
CanEnd (Some (command.Why w)) x = WhyCause w x ending.Done
CanEnd (Some (command.Generate n)) x = ⊤
CanEnd (Some (command.Bench kind n)) x = (text : List ℕ) × IsTallyText kind n text
CanEnd c x = ⊥

-- nothing stands against a run over a whole trace
abbrev pub CanRun : Option Command → Seen → List ℕ → Type 0
CanRun (Some (command.Run r)) x whole = InRun r x (λ p b. IsUnhindered p b.options (b.bytes ++ whole) (tells_end r))
CanRun c x whole = ⊥

-- Then the status is 0, whose ending says that all was done, or memory ran out. For a run this follows from what was taken of the trace
-- alone, so that one that stopped in its midst for another cause than the trace was out of memory.
pub record IsComplete (c : Option Command) (status : ℕ) (x : Seen) : Type 0 where
  pub of_taken : CanEnd c x → (status ≡ 0) ⊎ (status ≡ 6)
  pub of_whole : (whole : List ℕ) → IsWholeTrace x whole → CanRun c x whole → (status ≡ 0) ⊎ (status ≡ 6)
