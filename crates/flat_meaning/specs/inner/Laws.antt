-- The flat system of a specification means what the specification means.
use Rattle.std.specs.Prelude.{◌≡◌, ◌↔◌, ℕ, ◌<◌, List, Option, Some, IsTrue, slice_get}
use Rattle.tsl_value.specs.View.{View}
use Rattle.tsl_value.specs.declared.place.Place.{Place}
use Rattle.lift_func.specs.declared.fault.FaultKind.{FaultKind}
use Rattle.flat_core.specs.declared.equation.Equation.{Equation}
use Rattle.flat_core.specs.declared.equation.Output.{Output}
use Rattle.flat_core.specs.Stream.{Outcome, Event}
use Rattle.flat_core.specs.Case.{Streams}
use Rattle.flat_core.specs.Events.{Inputs}
use Rattle.flat_core.specs.Complete.{IsFlat}
use Rattle.flat_core.specs.Fault.{root_at}
use Rattle.flat_core.specs.Instant.{is_delay}
use Rattle.flat_core.specs.Line.{Line, inputs_of}
use Rattle.flat_core.specs.Needed.{RunsNeeded}
use Rattle.flat_core.specs.Solution.{Solves}
use Rattle.flat_core.specs.System.{System, runs, equation}
use Rattle.flat_core.specs.Text.{due_text}
use Rattle.flat_core.specs.WellFormed.{IsWellFormed}
use Rattle.syntax_tree.specs.Tree as tree
use Rattle.syntax_tree.specs.Tree.{place_of}
use Rattle.type_rules.specs.Kinds.{Kinds}
use Rattle.spec_meaning.specs.Occurrence.{Occurrence}
use Rattle.spec_meaning.specs.Happens.{Happens, HasRoot}
use Rattle.spec_meaning.specs.Due.{Printed, outputs_of, Expires, IsDueText}
use Rattle.spec_meaning.specs.Flat.{IsFlatOf}

-- at most one thing happens at an occurrence at a time
abbrev pub OneThingHappens : Type 0
OneThingHappens =
    (items : List tree.Item) (inputs : Inputs) (o : Occurrence) (t : ℕ) (x y : Option Outcome) →
    Happens items inputs o t x →
    Happens items inputs o t y →
    x ≡ y

-- at most one text is due
abbrev pub OneTextIsDue : Type 0
OneTextIsDue =
    (items : List tree.Item) (lines : List Line) (bound limit : ℕ) (xs ys : List ℕ) →
    IsDueText items lines bound limit xs →
    IsDueText items lines bound limit ys →
    xs ≡ ys

-- a root fault of a running equation at a place
pub record IsRootAt (s : System) (inputs : Inputs) (z : Streams) (t : ℕ) (place : Place) (kind : FaultKind) : Type 0 where
  pub number : ℕ
  pub of : Equation
  pub running : IsTrue (runs s number)
  pub is : equation s number ≡ Some of
  pub place_is : of.place ≡ place
  pub root : root_at s inputs z t number ≡ Some kind

-- a root fault of an occurrence that is needed, at a place
pub record IsRootOf (items : List tree.Item) (inputs : Inputs) (t : ℕ) (place : Place) (kind : FaultKind) : Type 0 where
  pub at : Occurrence
  pub place_is : place_of at.expr ≡ place
  pub root : HasRoot items inputs at t kind

-- a running delay has an event
pub record IsExpiry (s : System) (z : Streams) (t : ℕ) : Type 0 where
  pub number : ℕ
  pub running : IsTrue (runs s number)
  pub is : IsTrue (is_delay (equation s number))
  pub value : View
  pub event : z number t ≡ Some (Event value)

-- Streams that solve the system below a bound are those of the specification there. Each output has the stream of its occurrence, and
-- root faults and the events of delays are the same.
pub record MeansTheSame (items : List tree.Item) (s : System) (lines : List Line) (bound : ℕ) (z : Streams) : Type 0 where
  pub outputs :
      (k : ℕ) (o : Printed) →
      slice_get (outputs_of items) k ≡ Some o →
      (p : Output)
      × (slice_get s.outputs k ≡ Some p)
      × (p.name ≡ o.name)
      × ((t : ℕ) → t < bound → Happens items (inputs_of lines) o.is t (z p.equation t))
  pub roots :
      (t : ℕ) (place : Place) (kind : FaultKind) →
      t < bound →
      IsRootAt s (inputs_of lines) z t place kind ↔ IsRootOf items (inputs_of lines) t place kind
  pub expiries : (t : ℕ) → t < bound → IsExpiry s z t ↔ Expires items lines t

abbrev pub FlatMeansTheSame : Type 0
FlatMeansTheSame =
    (items : List tree.Item) (kinds : Kinds) (s : System) (lines : List Line) (bound : ℕ) (z : Streams) →
    IsFlatOf items kinds s.equations s.outputs →
    IsFlat s →
    RunsNeeded s →
    IsWellFormed s →
    Solves s (inputs_of lines) bound z →
    MeansTheSame items s lines bound z

-- and so is the text that is due
abbrev pub FlatTextIsDue : Type 0
FlatTextIsDue =
    (items : List tree.Item) (kinds : Kinds) (s : System) (lines : List Line) (bound limit : ℕ) (z : Streams) →
    IsFlatOf items kinds s.equations s.outputs →
    IsFlat s →
    RunsNeeded s →
    IsWellFormed s →
    Solves s (inputs_of lines) bound z →
    IsDueText items lines bound limit (due_text s lines z bound limit)
