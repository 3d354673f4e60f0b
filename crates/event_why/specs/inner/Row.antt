-- What happens at one instant, from what a draft tells of earlier times.
use Rattle.std.specs.Prelude.{◌≡◌, ℕ, suc, List, Option, None, IsTrue, length, slice_index_or}
use Rattle.std.specs.Option.{option_map}
use Rattle.flat_core.specs.Line.{Line, inputs_of}
use Rattle.flat_core.specs.Solution.{Solves}
use Rattle.flat_core.specs.Stream.{Outcome}
use Rattle.flat_core.specs.System.{System, runs}
use Rattle.flat_core.specs.inner.TypedEvents.{HasTypedEvents}
use Rattle.plain_solver.specs.declared.events.Outcome as code
use Rattle.plain_solver.specs.inner.Moments.{seen}
use Rattle.event_why.specs.declared.draft.Draft.{Draft}
use Rattle.event_why.specs.inner.Tale.{IsStory, IsUpTo, Tale}

-- An instant can be run: all that happens before it is told, without a fault, the streams solve the system up to it, and the lines have
-- its inputs.
pub record CanRun (T : Tale) (s : System) (lines : List Line) (t : ℕ) (draft : Draft) : Type 0 where
  pub story : IsStory T
  pub bound_is : T.bound ≡ t
  pub system_is : T.system ≡ s
  pub solves : Solves T.system T.inputs (suc t) T.streams
  pub typed : HasTypedEvents T.system (suc t) T.streams
  pub given : (i : ℕ) → IsTrue (runs T.system i) → inputs_of lines i t ≡ T.inputs i t
  pub up_to : IsUpTo T t draft

-- what a row has at equation i
abbrev pub row_at : List (Option code.Outcome) → ℕ → Option Outcome
row_at row i = option_map seen (slice_index_or row i None)

-- a row has what happens at t at each equation that runs
pub record IsRow (T : Tale) (t : ℕ) (row : List (Option code.Outcome)) : Type 0 where
  pub one_each : length row ≡ length T.system.equations
  pub here : (i : ℕ) → IsTrue (runs T.system i) → row_at row i ≡ T.streams i t
