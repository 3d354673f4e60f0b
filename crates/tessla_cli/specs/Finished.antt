-- What stands where a run over a trace is over.
use Rattle.std.specs.Prelude.{◌≡◌, ℕ, ⊤, true, List, Option, Some}
use Rattle.command_words.specs.declared.command.Run.{Run}
use Rattle.register_code.specs.Code.{Code}
use Rattle.trace_monitor.specs.Saved.{SpellsState}
use Rattle.trace_run.specs.Before.{Before}
use Rattle.trace_run.specs.Means.{WatchEndsAs, all_of}
use Rattle.trace_run.specs.Program.{IsCodeOf, Program}
use Rattle.tsl_world.specs.declared.outside.Channel.TheVariants as channel
use Rattle.tsl_world.specs.declared.outside.Slot.TheVariants.{Trace}
use Rattle.tsl_world.specs.Seen.{Seen}
use Rattle.tessla_cli.specs.declared.ending.Ending.{Ending}
use Rattle.tessla_cli.specs.declared.ending.Ending.TheVariants as ending
use Rattle.tessla_cli.specs.Asked.{tells_end}
use Rattle.tessla_cli.specs.Endings.{OfEnding}
use Rattle.tessla_cli.specs.Running.{IsBefore, IsStateOf, OfRun, OfRunSince}

-- Whatever stands before the run, all that is due was given to Out, and the ending has its cause. All is done only where the trace was read
-- to its end.
pub record RunFinishes (r : Run) (x : Seen) (by : Ending) : Type 0 where
  pub read : by ≡ ending.Done → x.ended Trace ≡ true
  pub ends : OfRunSince r x (λ p b. OfEnding by (λ how. WatchEndsAs p b (tells_end r) how x))

-- These bytes spell a state that fits what runs, and whatever stands before the run, the one after all bytes of the trace.
pub record IsLeftOf (r : Run) (x : Seen) (p : Program) (bytes : List ℕ) : Type 0 where
  pub fits : (c : Code) × IsCodeOf p c × SpellsState c bytes
  pub is : (b : Before) → IsBefore r.resume r p x b → IsStateOf p b.options (all_of b x) bytes

-- A run that saves its state has given it to its file where all was done.
abbrev pub SavesState : Option (List ℕ) → Run → Seen → Ending → Type 0
SavesState (Some file) r x ending.Done = OfRun r x (λ p. IsLeftOf r x p (x.given channel.State))
SavesState save r x by = ⊤
