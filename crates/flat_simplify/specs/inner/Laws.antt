-- Laws of simplification. What stands for an equation has its stream up to the fault time, and the fault time stays. A merge that was
-- replaced does not pass on a fault of its second argument any more, so that more equations may have a root fault at that time.
use Rattle.std.specs.Prelude.{◌≡◌, ℕ, ◌+◌, ◌<◌, ◌≤◌, ◌⊎◌, ◌↔◌, List, [], map, Some, IsTrue, IsFalse}
use Rattle.std.specs.Option.{option_map}
use Rattle.std.specs.List.{Contains}
use Rattle.tsl_value.specs.declared.scalar.ValueType.{ValueType}
use Rattle.lift_func.specs.declared.fault.FaultKind.{FaultKind}
use Rattle.flat_core.specs.declared.equation.Equation.{Equation}
use Rattle.flat_core.specs.declared.equation.Output.{Output}
use Rattle.flat_core.specs.Case.{Streams}
use Rattle.flat_core.specs.Events.{Inputs}
use Rattle.flat_core.specs.Complete.{IsComplete}
use Rattle.flat_core.specs.Ending.{EndsInFault, EndsAtLimit, EndsAtBound}
use Rattle.flat_core.specs.Fault.{root_at, is_over}
use Rattle.flat_core.specs.Instant.{is_instant, instants}
use Rattle.flat_core.specs.Line.{Line, inputs_of}
use Rattle.flat_core.specs.Solution.{Solves}
use Rattle.flat_core.specs.Stream.{is_fault}
use Rattle.flat_core.specs.System.{System, runs, equation, OutputsRun, IsProper}
use Rattle.flat_core.specs.Text.{due_text}
use Rattle.flat_core.specs.TypedSystem.{IsOfType, IsTypedSystem}
use Rattle.flat_core.specs.WellFormed.{IsWellFormed}
use Rattle.flat_simplify.specs.CanFault.{CanFault}
use Rattle.flat_simplify.specs.Replaced.{IsReplaced, StandsFor, IsReplacement}
use Rattle.flat_simplify.specs.Simplified.{IsSimplified}
use Rattle.flat_simplify.specs.inner.Solved.{AreSolved, IsSoundBefore, IsFaultTime}

-- what stands for a running equation runs, is not replaced and has its type
pub record IsStandIn (s : System) (i j : ℕ) : Type 0 where
  pub running : IsTrue (runs s j)
  pub left : (a : ℕ) → IsReplaced s j a → ⊥
  pub same_type : (t : ValueType) → IsOfType s.equations i t → IsOfType s.equations j t

abbrev pub StandInsFit : Type 0
StandInsFit = (s : System) → IsProper s → IsTypedSystem s → (i j : ℕ) → IsTrue (runs s i) → StandsFor s i j → IsStandIn s i j

-- one number at most stands for an equation, and one system at most is what simplification makes
abbrev pub OneStandsForEach : Type 0
OneStandsForEach = (s : System) (i j k : ℕ) → StandsFor s i j → StandsFor s i k → j ≡ k

abbrev pub OneIsSimplified : Type 0
OneIsSimplified = (s u v : System) → IsSimplified s u → IsSimplified s v → u ≡ v

-- where it can be told which equations are replaced, each has a number that stands for it
abbrev pub ReplacementsExist : Type 0
ReplacementsExist =
    (s : System) →
    IsWellFormed s →
    ((i : ℕ) → ((a : ℕ) × IsReplaced s i a) ⊎ ((a : ℕ) → IsReplaced s i a → ⊥)) →
    (replaced : List ℕ) × IsReplacement s replaced

-- an equation without its arguments
abbrev pub without_args : Equation → Equation
without_args e = record e { args = [] }

-- Number by number the equations differ in their arguments alone: operation, type, name and place stay.
pub record KeepsEquations (s u : System) : Type 0 where
  pub all_same : map without_args u.equations ≡ map without_args s.equations
  pub each : (i : ℕ) → option_map without_args (equation u i) ≡ option_map without_args (equation s i)

abbrev pub EquationsAreKept : Type 0
EquationsAreKept = (s u : System) → IsSimplified s u → KeepsEquations s u

-- u has what a system needs to be run, and runs what ran, without what was replaced, and with all that can fault
pub record IsFit (s u : System) : Type 0 where
  pub proper : IsProper u
  pub typed : IsTypedSystem u
  pub well_formed : IsWellFormed u
  pub outputs_run : OutputsRun u
  pub complete : IsComplete s → IsComplete u
  pub ran : (i : ℕ) → IsTrue (runs u i) → IsTrue (runs s i)
  pub left : (i a : ℕ) → IsTrue (runs u i) → IsReplaced s i a → ⊥
  pub faulting : (i : ℕ) → CanFault s i → IsTrue (runs u i)
  pub outputs_stand : (o : Output) (j : ℕ) → Contains s.outputs o → StandsFor s o.equation j → IsTrue (runs u j)
  pub solved : (inputs : Inputs) (bound : ℕ) → (w : Streams) × Solves u inputs bound w

abbrev pub SimplifiedIsFit : Type 0
SimplifiedIsFit = (s u : System) → IsProper s → IsTypedSystem s → IsWellFormed s → OutputsRun s → IsSimplified s u → IsFit s u

-- up to the fault time what stands for an equation has its outcome, where that is not Fault; below the fault time none is
pub record KeepsStreams (s u : System) (inputs : Inputs) (bound : ℕ) (z w : Streams) : Type 0 where
  pub same :
      (t : ℕ) →
      t < bound →
      IsSoundBefore s inputs z t →
      (x j : ℕ) → IsTrue (runs s x) →
      StandsFor s x j →
      IsTrue (runs u j) →
      IsFalse (is_fault (z x t)) →
      w j t ≡ z x t
  pub same_below :
      (t : ℕ) →
      t < bound →
      IsSoundBefore s inputs z (t + 1) →
      (x j : ℕ) → IsTrue (runs s x) →
      StandsFor s x j →
      IsTrue (runs u j) →
      w j t ≡ z x t

abbrev pub StreamsAreKept : Type 0
StreamsAreKept =
    (s u : System) (inputs : Inputs) (bound : ℕ) (z w : Streams) →
    AreSolved s u inputs bound z w →
    KeepsStreams s u inputs bound z w

-- the fault time stays, and at it all root faults
pub record KeepsFaults (s u : System) (inputs : Inputs) (bound : ℕ) (z w : Streams) : Type 0 where
  pub root_kept :
      (t i : ℕ) (kind : FaultKind) →
      t < bound →
      IsSoundBefore s inputs z t →
      IsTrue (runs s i) →
      root_at s inputs z t i ≡ Some kind →
      IsTrue (runs u i) × (root_at u inputs w t i ≡ Some kind)
  pub fault_time_same : (t : ℕ) → t < bound → IsFaultTime s inputs z t ↔ IsFaultTime u inputs w t
  pub over_same : (t : ℕ) → t < bound → is_over u inputs w t ≡ is_over s inputs z t

abbrev pub FaultsAreKept : Type 0
FaultsAreKept =
    (s u : System) (inputs : Inputs) (bound : ℕ) (z w : Streams) →
    AreSolved s u inputs bound z w →
    KeepsFaults s u inputs bound z w

-- the instants up to the fault time stay, and so does the text that is due
pub record KeepsText (s u : System) (lines : List Line) (bound : ℕ) (z w : Streams) : Type 0 where
  pub instant_same : (t : ℕ) → t < bound → IsSoundBefore s (inputs_of lines) z t → is_instant u lines w t ≡ is_instant s lines z t
  pub instants_same : (t : ℕ) → t ≤ bound → IsSoundBefore s (inputs_of lines) z t → instants u lines w t ≡ instants s lines z t
  pub due_same : (limit : ℕ) → due_text u lines w bound limit ≡ due_text s lines z bound limit

abbrev pub TextIsKept : Type 0
TextIsKept =
    (s u : System) (lines : List Line) (bound : ℕ) (z w : Streams) →
    AreSolved s u (inputs_of lines) bound z w →
    KeepsText s u lines bound z w

-- a run ends in a fault at the same time, at the limit at the same time, or at the bound in both
pub record KeepsEnds (s u : System) (lines : List Line) (bound limit : ℕ) (z w : Streams) : Type 0 where
  pub fault_same :
      (t : ℕ) →
      ((i : ℕ) × (kind : FaultKind) × EndsInFault s lines z bound limit t i kind)
      ↔ ((j : ℕ) × (other : FaultKind) × EndsInFault u lines w bound limit t j other)
  pub limit_same : (t : ℕ) → EndsAtLimit s lines z bound limit t ↔ EndsAtLimit u lines w bound limit t
  pub bound_same : EndsAtBound s lines z bound limit ↔ EndsAtBound u lines w bound limit

abbrev pub EndsAreKept : Type 0
EndsAreKept =
    (s u : System) (lines : List Line) (bound limit : ℕ) (z w : Streams) →
    AreSolved s u (inputs_of lines) bound z w →
    KeepsEnds s u lines bound limit z w
