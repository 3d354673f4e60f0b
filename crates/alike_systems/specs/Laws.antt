-- What systems that are alike have alike.
use Rattle.std.specs.Prelude.{◌≡◌, ◌↔◌, ℕ, ◌<◌, Bool, List, IsTrue}
use Rattle.lift_func.specs.declared.fault.FaultKind.{FaultKind}
use Rattle.flat_core.specs.Case.{Streams}
use Rattle.flat_core.specs.Ending.{EndsInFault, EndsAtLimit, EndsAtBound}
use Rattle.flat_core.specs.Events.{Inputs}
use Rattle.flat_core.specs.Fault.{root_at, IsNamed}
use Rattle.flat_core.specs.Instant.{instants}
use Rattle.flat_core.specs.Line.{Line, inputs_of}
use Rattle.flat_core.specs.Solution.{Solves}
use Rattle.flat_core.specs.System.{System, runs, IsProper}
use Rattle.flat_core.specs.Text.{due_text}
use Rattle.flat_core.specs.WellFormed.{IsWellFormed}
use Rattle.trace_reader.specs.Reading.{reading}
use Rattle.alike_systems.specs.Alike.{AreAlike}

-- each of two systems that are alike is like the other
abbrev pub AlikeEitherWay : Type 0
AlikeEitherWay = (s u : System) → AreAlike s u → AreAlike u s

-- and what is like one that is like a third is like the third
abbrev pub AlikeThroughOther : Type 0
AlikeThroughOther = (s u v : System) → AreAlike s u → AreAlike u v → AreAlike s v

-- a trace has the same lines and the same refusal
abbrev pub AlikeReadAlike : Type 0
AlikeReadAlike =
    (s u : System) (strict : Bool) (limit : ℕ) (bytes : List ℕ) (ended : Bool)
    → AreAlike s u
    → reading s strict limit bytes ended ≡ reading u strict limit bytes ended

-- streams that solve one solve the other
abbrev pub AlikeSolveAlike : Type 0
AlikeSolveAlike =
    (s u : System) (inputs : Inputs) (bound : ℕ) (z : Streams)
    → AreAlike s u
    → Solves s inputs bound z ↔ Solves u inputs bound z

-- Streams say the same in both: instants, root faults of running equations and the fault that is named, the text that is due, and how a run
-- ends. What runs has the same equation in both, so a fault has the same place.
pub record SaysTheSame (s u : System) (lines : List Line) (z : Streams) (bound limit : ℕ) : Type 0 where
  pub instants_same : instants s lines z bound ≡ instants u lines z bound
  pub root_same : (t i : ℕ) → IsTrue (runs s i) → root_at s (inputs_of lines) z t i ≡ root_at u (inputs_of lines) z t i
  pub named_same : (t i : ℕ) (kind : FaultKind) → IsNamed s (inputs_of lines) z t i kind ↔ IsNamed u (inputs_of lines) z t i kind
  pub text_same : due_text s lines z bound limit ≡ due_text u lines z bound limit
  pub fault_same : (t i : ℕ) (kind : FaultKind) → EndsInFault s lines z bound limit t i kind ↔ EndsInFault u lines z bound limit t i kind
  pub limit_same : (t : ℕ) → EndsAtLimit s lines z bound limit t ↔ EndsAtLimit u lines z bound limit t
  pub bound_same : EndsAtBound s lines z bound limit ↔ EndsAtBound u lines z bound limit

abbrev pub AlikeSayTheSame : Type 0
AlikeSayTheSame =
    (s u : System) (lines : List Line) (z : Streams) (bound limit : ℕ)
    → AreAlike s u
    → SaysTheSame s u lines z bound limit

-- Each running equation has the same stream in both below a bound, where each is solved by streams of its own.
abbrev pub AlikeHaveOneSolution : Type 0
AlikeHaveOneSolution =
    (s u : System) (inputs : Inputs) (bound : ℕ) (z w : Streams)
    → IsProper s
    → IsWellFormed s
    → AreAlike s u
    → Solves s inputs bound z
    → Solves u inputs bound w
    → (i : ℕ)
    → IsTrue (runs s i)
    → (t : ℕ)
    → t < bound
    → z i t ≡ w i t
