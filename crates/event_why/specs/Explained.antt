-- What is answered of an output at a time, with a derivation of its event if it has one.
use Rattle.std.specs.Prelude.{◌≡◌, ℕ, ◌<◌, ◌≤◌, false, List, Option, Some, None, slice_get}
use Rattle.tsl_value.specs.View.{View}
use Rattle.lift_func.specs.declared.fault.FaultKind.{FaultKind}
use Rattle.flat_core.specs.declared.equation.Output.{Output}
use Rattle.flat_core.specs.Case.{Streams}
use Rattle.flat_core.specs.Events.{Inputs}
use Rattle.flat_core.specs.Fault.{is_faulty, IsNamed}
use Rattle.flat_core.specs.Solution.{Solves}
use Rattle.flat_core.specs.Stream.{event}
use Rattle.flat_core.specs.System.{System}
use Rattle.flat_slice.specs.Slice.{IsSlice}
use Rattle.event_why.specs.Check.{EndsInEvent, IsJudged}
use Rattle.event_why.specs.declared.explained.Explained.{Explained}
use Rattle.event_why.specs.declared.fact.Why.{Why}
use Rattle.event_why.specs.declared.explained.Explained.TheVariants as explained

-- the same system, in which just these equations run
abbrev pub restricted : System → List ℕ → System
restricted s slice = record s { running = slice }

module _ (s : System) (p : Inputs) (t : ℕ) where
  -- this is so of each solution that goes beyond t
  abbrev pub InEach : (Streams → Type 0) → Type 0
  InEach P = (bound : ℕ) (z : Streams) → t < bound → Solves s p bound z → P z

  -- what happens at equation o at t
  pub record Has (o : ℕ) (x : Option View) : Type 0 where
    pub each : InEach (λ z. event (z o t) ≡ x)

  -- no equation of the slice has a root fault up to t
  pub record IsFree (slice : List ℕ) : Type 0 where
    pub each : InEach (λ z. (u : ℕ) → u ≤ t → is_faulty (restricted s slice) p z u ≡ false)

  -- this is the fault that is named of the slice alone, and comes up to t
  pub record IsFirstFault (slice : List ℕ) (u i : ℕ) (kind : FaultKind) : Type 0 where
    pub early : u ≤ t
    pub each : InEach (λ z. IsNamed (restricted s slice) p z u i kind)

-- the steps are an accepted derivation, which ends in this event of equation o
pub record IsAccepted (s : System) (p : Inputs) (number o t : ℕ) (why : Why) (v : View) : Type 0 where
  pub judged : IsJudged s p number why.steps.items None
  pub ends : EndsInEvent why.steps.items o t v

-- what is said of equation o with this slice, the output of a number
abbrev pub Tells : System → Inputs → (number t o : ℕ) → List ℕ → Explained → Type 0
Tells s p number t o slice (explained.Why why) = IsFree s p t slice × ((v : View) × IsAccepted s p number o t why v × Has s p t o (Some v))
Tells s p number t o slice explained.NoEvent = IsFree s p t slice × Has s p t o None
Tells s p number t o slice (explained.Fault u i kind) = IsFirstFault s p t slice u i kind

-- what is answered of the output of a number at t
pub record IsExplained (s : System) (p : Inputs) (number t : ℕ) (answer : Explained) : Type 0 where
  pub output : Output
  pub is_output : slice_get s.outputs number ≡ Some output
  pub slice : List ℕ
  pub is_slice : IsSlice s output.equation slice
  pub tells : Tells s p number t output.equation slice answer
