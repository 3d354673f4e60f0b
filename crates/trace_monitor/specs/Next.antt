-- How a run stands after some bytes of the trace: it goes on, or it ends.
use Rattle.std.specs.Prelude.{◌≡◌, ℕ, Bool, true, false, List, length, Option, None, Some, nat_eq, Result, Ok, Err}
use Rattle.flat_core.specs.System.{System, equation}
use Rattle.flat_core.specs.declared.equation.Equation.{Equation}
use Rattle.tsl_value.specs.declared.place.Place.{Place}
use Rattle.monitor_run.specs.declared.monitor.Stop.{Stop}
use Rattle.monitor_run.specs.declared.monitor.Stop.TheVariants as stop
use Rattle.trace_monitor.specs.declared.ending.RunEnding.{RunEnding}
use Rattle.trace_monitor.specs.declared.ending.RunEnding.TheVariants as ending
use Rattle.trace_monitor.specs.declared.halt.Halt.{Halt}
use Rattle.trace_monitor.specs.declared.halt.Halt.TheVariants as halt
use Rattle.trace_monitor.specs.declared.options.Options.{Options}
use Rattle.trace_monitor.specs.Due.{refused_in}
use Rattle.trace_monitor.specs.Ending.{IsQuiet, IsFaulted, IsLimited, GoesOn}

-- no bytes
abbrev pub is_nothing : List ℕ → Bool
is_nothing bytes = nat_eq (length bytes) 0

-- the place of equation i
pub record IsPlaceOf (s : System) (i : ℕ) (place : Place) : Type 0 where
  pub at : Equation
  pub is : equation s i ≡ Some at
  pub place_is : at.place ≡ place

module _ (s : System) (o : Options) where
  -- the cause of an ending at these bytes of the trace
  abbrev pub EndsBy : List ℕ → Bool → RunEnding → Type 0
  EndsBy bytes ended ending.Done = (ended ≡ true) × (refused_in s o bytes ended ≡ None) × IsQuiet s o bytes ended
  EndsBy bytes ended (ending.Trace fault) = (refused_in s o bytes ended ≡ Some fault) × IsQuiet s o bytes ended
  EndsBy bytes ended (ending.Fault time kind place) = (i : ℕ) × IsPlaceOf s i place × IsFaulted s o bytes ended time i kind
  EndsBy bytes ended (ending.Limit count time) = (count ≡ o.instants) × IsLimited s o bytes ended time

  -- how it stands at these bytes: it goes on, or the run ends
  abbrev pub IsNext : List ℕ → Bool → Option RunEnding → Type 0
  IsNext bytes ended None = (ended ≡ false) × GoesOn s o bytes
  IsNext bytes ended (Some by) = EndsBy bytes ended by

-- the ending of a run whose engine stops so
abbrev pub EndsFor : System → Stop → RunEnding → Type 0
EndsFor s (stop.Fault t i kind) by = (place : Place) × IsPlaceOf s i place × (by ≡ ending.Fault t kind place)
EndsFor s (stop.Limit count t) by = by ≡ ending.Limit count t
EndsFor s stop.Memory by = ⊥

-- what is answered where no further line is taken for this reason, or the engine stops
abbrev pub EndsSo : System → Result Halt Stop → Option RunEnding → Type 0
EndsSo s (Ok halt.More) answer = answer ≡ None
EndsSo s (Ok halt.End) answer = answer ≡ Some ending.Done
EndsSo s (Ok (halt.Refused fault)) answer = answer ≡ Some (ending.Trace fault)
EndsSo s (Err why) answer = (by : RunEnding) × (answer ≡ Some by) × EndsFor s why by
