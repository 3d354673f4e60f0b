-- Streams that solve a system, and how far.
use Rattle.std.specs.Prelude.{◌≡◌, ℕ, ◌+◌, ◌<◌, ◌≤◌, true, false, List, [], length, IsFalse, slice_index_or}
use Rattle.lift_func.specs.declared.fault.FaultKind.{FaultKind}
use Rattle.flat_core.specs.Events.{Inputs}
use Rattle.flat_core.specs.Complete.{IsFlat}
use Rattle.flat_core.specs.inner.Dependency.{IsRunOrder}
use Rattle.flat_core.specs.Fault.{is_faulty, IsNamed}
use Rattle.flat_core.specs.Instant.{instants, is_instant, is_due}
use Rattle.flat_core.specs.Line.{Line, inputs_of}
use Rattle.flat_core.specs.System.{System, runs}
use Rattle.flat_core.specs.Solution.{Solves}
use Rattle.plain_solver.specs.declared.events.Moment.{Moment}
use Rattle.plain_solver.specs.declared.solve.End.{End}
use Rattle.plain_solver.specs.declared.solve.End.TheVariants as end
use Rattle.plain_solver.specs.inner.Instant.{AreBefore}
use Rattle.plain_solver.specs.inner.Streams.{streams_of}
use Rattle.plain_solver.specs.inner.Typed.{AreTyped}

-- a system with an order to run it in, and one stream for each equation: those of a solution below the bound for the running ones, and
-- none for the others; their events are of the equations' types
pub record IsSolved (s : System) (inputs : Inputs) (bound : ℕ) (all : List (List Moment)) : Type 0 where
  pub whole : IsFlat s
  pub order : List ℕ
  pub ordered : IsRunOrder s order
  pub one_each : length all ≡ length s.equations
  pub before : AreBefore bound all
  pub solves : Solves s inputs bound (streams_of all)
  pub idle : (i : ℕ) → IsFalse (runs s i) → slice_index_or all i [] ≡ []
  pub typed : AreTyped s (streams_of all)

-- all instants below the bound ran, no more than the limit, and none has a root fault
pub record IsWhole (s : System) (lines : List Line) (bound limit : ℕ) (all : List (List Moment)) (ran : List ℕ) : Type 0 where
  pub solved : IsSolved s (inputs_of lines) bound all
  pub sound : (u : ℕ) → u < bound → is_faulty s (inputs_of lines) (streams_of all) u ≡ false
  pub ran_is : ran ≡ instants s lines (streams_of all) bound
  pub within : length ran ≤ limit

-- the instants before t ran, t is one too and within the limit, and the fault that is named comes there
pub record IsFaulted (s : System) (lines : List Line) (bound limit : ℕ) (all : List (List Moment)) (ran : List ℕ) (t i : ℕ)
    (kind : FaultKind) : Type 0 where
  pub early : t < bound
  pub solved : IsSolved s (inputs_of lines) (t + 1) all
  pub named : IsNamed s (inputs_of lines) (streams_of all) t i kind
  pub ran_is : ran ≡ instants s lines (streams_of all) t
  pub comes : is_instant s lines (streams_of all) t ≡ true
  pub within : length ran < limit

-- as many instants as the limit ran, all before t and without a root fault, and one more comes at t
pub record IsLimited (s : System) (lines : List Line) (bound limit : ℕ) (all : List (List Moment)) (ran : List ℕ) (t : ℕ) : Type 0 where
  pub early : t < bound
  pub solved : IsSolved s (inputs_of lines) t all
  pub sound : (u : ℕ) → u < t → is_faulty s (inputs_of lines) (streams_of all) u ≡ false
  pub ran_is : ran ≡ instants s lines (streams_of all) t
  pub full : length ran ≡ limit
  pub due : is_due s lines (streams_of all) t ≡ true

abbrev pub IsEnded : System → List Line → ℕ → ℕ → List (List Moment) → List ℕ → End → Type 0
IsEnded s lines bound limit all ran end.Bound = IsWhole s lines bound limit all ran
IsEnded s lines bound limit all ran (end.Fault t i kind) = IsFaulted s lines bound limit all ran t i kind
IsEnded s lines bound limit all ran (end.Limit t) = IsLimited s lines bound limit all ran t
