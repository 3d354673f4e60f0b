-- How a run stands, by the meaning of the specification, and which fault is named.
use Rattle.std.specs.Prelude.{◌≡◌, ℕ, ◌<◌, ◌≤◌, List, length, take, Some, slice_get}
use Rattle.std.specs.List.{Contains}
use Rattle.lift_func.specs.declared.fault.FaultKind.{FaultKind}
use Rattle.flat_core.specs.Case.{Streams}
use Rattle.flat_core.specs.declared.equation.Equation.{Equation}
use Rattle.flat_core.specs.Fault.{IsNamed}
use Rattle.flat_core.specs.Line.{Line, inputs_of}
use Rattle.flat_core.specs.Solution.{Solves}
use Rattle.flat_core.specs.System.{System, equation}
use Rattle.spec_meaning.specs.Due.{IsFaulty, AreInstants}
use Rattle.syntax_tree.specs.Tree as tree
use Rattle.tsl_value.specs.declared.place.Place.{Place}

-- for the lines of a trace, of which the times below a bound are closed, and a limit of instants
module _ (items : List tree.Item) (lines : List Line) (bound limit : ℕ) where
  -- A needed occurrence has a root fault at t, which is closed and one of the first instants, as many as the limit, and none has one
  -- earlier.
  pub record FaultTimeIsMeant (t : ℕ) : Type 0 where
    pub faulty : IsFaulty items lines t
    pub least : (u : ℕ) → u < t → IsFaulty items lines u → ⊥
    pub closed : t < bound
    pub instants : List ℕ
    pub are : AreInstants items lines bound instants
    pub within : Contains (take limit instants) t

  -- No closed instant has a root fault, and there are no more of them than the limit.
  pub record QuietIsMeant : Type 0 where
    pub instants : List ℕ
    pub are : AreInstants items lines bound instants
    pub sound : (t : ℕ) → Contains (take limit instants) t → IsFaulty items lines t → ⊥
    pub few : length instants ≤ limit

  -- None of the first instants, as many as the limit, has a root fault, and t is the next one that is closed.
  pub record LimitIsMeant (t : ℕ) : Type 0 where
    pub instants : List ℕ
    pub are : AreInstants items lines bound instants
    pub sound : (u : ℕ) → Contains (take limit instants) u → IsFaulty items lines u → ⊥
    pub next : slice_get instants limit ≡ Some t

-- The fault that is named at t, in the system that is run: in all streams that solve it below the bound the least equation with a root
-- fault at t has this place and this kind of fault, and none has one earlier. It can differ from the root faults of the meaning: where a
-- merge gave way to its first argument, it passes on no fault of its second any more, so that equations which use it may fault as well.
pub record IsFaultNamed (u : System) (lines : List Line) (bound t : ℕ) (place : Place) (kind : FaultKind) : Type 0 where
  pub number : ℕ
  pub of : Equation
  pub is : equation u number ≡ Some of
  pub place_is : of.place ≡ place
  pub named : (z : Streams) → Solves u (inputs_of lines) bound z → IsNamed u (inputs_of lines) z t number kind
