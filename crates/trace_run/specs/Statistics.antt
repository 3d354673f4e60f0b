-- The statistics of a run: how many elements its updates have copied.
use Rattle.std.specs.Prelude.{◌≡◌, ℕ, Bool, true, false, List, [], ◌++◌, Option, Some, None, codes, slice_index}
use Rattle.std.specs.Fmt.{decimal}
use Rattle.std.specs.List.{flat_map}
use Rattle.event_writer.specs.Text.{place_text}
use Rattle.flat_core.specs.declared.equation.Equation.{Equation}
use Rattle.flat_core.specs.System.{System, equation}
use Rattle.monitor_run.specs.inner.State as engine
use Rattle.register_code.specs.Code.{Code}
use Rattle.register_machine.specs.Copied.{copied}
use Rattle.program_text.specs.Text.{label_text}
use Rattle.flat_core.specs.Updates.{running_updates}
use Rattle.trace_monitor.specs.Counted.{copied_below}
use Rattle.trace_monitor.specs.declared.ending.RunEnding.{RunEnding}
use Rattle.trace_monitor.specs.declared.options.Options.{Options}
use Rattle.trace_monitor.specs.Ending.{InAll}
use Rattle.trace_run.specs.Program.{IsCodeOf, Program, system_of}

-- that so many elements were copied, with the end of the line
abbrev pub copied_text : ℕ → List ℕ
copied_text count = codes " copied " ++ (decimal count ++ codes "\n")

-- the place of an equation
abbrev pub place_of : Option Equation → List ℕ
place_of None = []
place_of (Some e) = place_text e.place

-- the line of an update, by its number, that has copied so many elements
abbrev pub update_line : System → ℕ → ℕ → List ℕ
update_line s u count = codes "stats " ++ (label_text s u ++ (codes " " ++ (place_of (equation s u) ++ copied_text count)))

-- the lines of the running updates by number
abbrev pub statistics_text : System → (ℕ → ℕ) → List ℕ
statistics_text s counts = flat_map (λ u. update_line s u (counts u)) (running_updates s)

-- what an engine tells of the updates of a system, where that is asked for
abbrev pub counted_text : System → engine.State → Bool → List ℕ
counted_text s e true = statistics_text s (λ u. slice_index e.ledger u)
counted_text s e false = []

-- The text is that of the statistics where a run of a program ends so, at these bytes of the trace: for all streams that solve its system
-- at the closed times, each running update has copied what it copies at its events up to the last instant that was run, that of a fault
-- included. An update of the set of its code copies nothing.
pub record AreStatistics (p : Program) (o : Options) (bytes : List ℕ) (ended : Bool) (how : RunEnding) (text : List ℕ) : Type 0 where
  pub code : Code
  pub is_code : IsCodeOf p code
  pub is : InAll (system_of p) o bytes ended (λ z. let s = system_of p in
      text ≡ statistics_text s (λ u. copied s code.in_place z u (copied_below s o bytes ended how)))
