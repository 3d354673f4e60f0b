-- The text that is due: the output events of a specification at the closed times, below the first root fault and within the limit of
-- instants.
use Rattle.std.specs.Prelude.{◌≡◌, ◌⊎◌, ◌↔◌, ℕ, ◌<◌, ◌≤◌, List, [], ◌∷◌, ◌++◌, take, Option, Some, IsTrue}
use Rattle.std.specs.List.{Contains}
use Rattle.std.specs.List.Sorted.{IsStrictlyIncreasing}
use Rattle.tsl_value.specs.View.{View}
use Rattle.lift_func.specs.declared.fault.FaultKind.{FaultKind}
use Rattle.flat_core.specs.Stream.{Outcome, Event, event}
use Rattle.flat_core.specs.Line.{Line, inputs_of, is_line_on}
use Rattle.flat_core.specs.Text.{event_line}
use Rattle.syntax_tree.specs.Tree as tree
use Rattle.stream_constructs.specs.Construct.{Delay}
use Rattle.spec_meaning.specs.Occurrence.{Occurrence}
use Rattle.spec_meaning.specs.Shape.{Shape, shape}
use Rattle.spec_meaning.specs.Happens.{Happens, IsNeeded, HasRoot}

-- an output: the name under which its events are printed, and its occurrence
pub record Printed : Type 0 where
  pub name : List ℕ
  pub is : Occurrence

abbrev pub outputs_of : List tree.Item → List Printed
outputs_of [] = []
outputs_of (tree.Output p q n ∷ items) = record { name = n; is = record { calls = []; expr = tree.Name q n } } ∷ outputs_of items
outputs_of (tree.OutputAs p e q n ∷ items) = record { name = n; is = record { calls = []; expr = e } } ∷ outputs_of items
outputs_of (tree.Input p q n y ∷ items) = outputs_of items
outputs_of (tree.Defined p d ∷ items) = outputs_of items

module _ (items : List tree.Item) (lines : List Line) where
  -- a delay that is needed has an event
  pub record Expires (t : ℕ) : Type 0 where
    pub delay : Occurrence
    pub needed : IsNeeded items delay
    pub of : Shape
    pub is : shape items delay ≡ Some of
    pub is_delay : of.construct ≡ Delay
    pub value : View
    pub event : Happens items (inputs_of lines) delay t (Some (Event value))

  -- 0, the times of input events, and the times of the events of delays
  abbrev pub IsInstant : ℕ → Type 0
  IsInstant t = (t ≡ 0) ⊎ (IsTrue (is_line_on t lines) ⊎ Expires t)

  -- some occurrence has a root fault
  pub record IsFaulty (t : ℕ) : Type 0 where
    pub at : Occurrence
    pub kind : FaultKind
    pub root : HasRoot items (inputs_of lines) at t kind

  -- the instants below a bound, in order
  pub record AreInstants (bound : ℕ) (instants : List ℕ) : Type 0 where
    pub rising : IsStrictlyIncreasing instants
    pub each : (t : ℕ) → Contains instants t ↔ ((t < bound) × IsInstant t)

  -- those among the first instants, as many as a limit, up to which there is no root fault
  pub record AreDue (bound limit : ℕ) (due : List ℕ) : Type 0 where
    pub instants : List ℕ
    pub are : AreInstants bound instants
    pub rising : IsStrictlyIncreasing due
    pub each : (t : ℕ) → Contains due t ↔ (Contains (take limit instants) t × ((u : ℕ) → u ≤ t → IsFaulty u → ⊥))

  -- the lines of outputs at a time
  pub data IsTextAt (t : ℕ) : List Printed → List ℕ → Type 0 where
    end : IsTextAt t [] []
    -- t: NAME = VALUE , where NAME has an event, and the lines of the outputs after it
    output :
        {o : Printed} {os : List Printed} {text : List ℕ} (x : Option Outcome) (rest : List ℕ) →
        Happens items (inputs_of lines) o.is t x →
        IsTextAt t os rest →
        text ≡ event_line t o.name (event x) ++ rest →
        IsTextAt t (o ∷ os) text

  -- the lines of some instants
  pub data IsTextOf : List ℕ → List ℕ → Type 0 where
    end : IsTextOf [] []
    -- the lines of t , and those of the instants after it
    instant :
        {t : ℕ} {ts text : List ℕ} (first rest : List ℕ) →
        IsTextAt t (outputs_of items) first →
        IsTextOf ts rest →
        text ≡ first ++ rest →
        IsTextOf (t ∷ ts) text

  pub record IsDueText (bound limit : ℕ) (text : List ℕ) : Type 0 where
    pub due : List ℕ
    pub are_due : AreDue bound limit due
    pub is : IsTextOf due text
