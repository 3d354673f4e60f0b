-- What happens at one equation at an instant, from a row that has what happens at those that it uses then, and a draft.
use Rattle.std.specs.Prelude.{◌≡◌, ℕ, Bool, List, Option, Some, None, IsTrue, map, length, slice_index_or}
use Rattle.std.specs.List.{AllByRecursion}
use Rattle.std.specs.Option.{option_map}
use Rattle.tsl_value.specs.View.{View}
use Rattle.flat_core.specs.declared.equation.Equation.{Equation}
use Rattle.flat_core.specs.Case.{case_of, used_of}
use Rattle.flat_core.specs.Line.{Line}
use Rattle.flat_core.specs.Stream.{event}
use Rattle.flat_core.specs.System.{equation, runs}
use Rattle.plain_solver.specs.declared.events.Outcome as code
use Rattle.plain_solver.specs.inner.Moments.{seen}
use Rattle.why_rules.specs.Facts.{Fact, Happens}
use Rattle.event_why.specs.declared.draft.Draft.{Draft}
use Rattle.event_why.specs.inner.Drafted.{fact_of}
use Rattle.event_why.specs.inner.Row.{CanRun, row_at}
use Rattle.event_why.specs.inner.Tale.{Tale}

-- the events that a row has at some equations
abbrev pub events_in : List (Option code.Outcome) → List ℕ → List (Option View)
events_in row ids = map (λ a. event (row_at row a)) ids

-- the value of an event that a fact tells of
abbrev pub value_of : Option Fact → Option View
value_of (Some (Happens i t v)) = Some v
value_of _ = None

-- the latest event of an equation before an instant, as a draft tells it
abbrev pub latest_told : Draft → ℕ → Option View
latest_told draft a = value_of (fact_of draft.steps.items draft.latest.numbers.items a)

-- Equation i can be run at t: what was before is told, and a row has what happens at the arguments that it uses.
pub record CanHappen (T : Tale) (lines : List Line) (t i : ℕ) (e : Equation) (draft : Draft)
    (row : List (Option code.Outcome)) : Type 0 where
  pub can : CanRun T T.system lines t draft
  pub run : IsTrue (runs T.system i)
  pub is : equation T.system i ≡ Some e
  pub used : AllByRecursion (λ a. row_at row a ≡ T.streams a t) (used_of e.op e.args)

-- what happens at equation i at t is this, if it runs, and else nothing
pub record IsOutcomeAt (T : Tale) (t i : ℕ) (o : Option code.Outcome) : Type 0 where
  pub here : IsTrue (runs T.system i) → option_map seen o ≡ T.streams i t
  pub idle : (IsTrue (runs T.system i) → ⊥) → o ≡ None

-- A row has what happens at t at those equations that are done and run, and nothing at the others.
pub record IsPartOfRow (T : Tale) (t : ℕ) (done : ℕ → Bool) (row : List (Option code.Outcome)) : Type 0 where
  pub one_each : length row ≡ length T.system.equations
  pub here : (i : ℕ) → IsTrue (done i) → IsTrue (runs T.system i) → row_at row i ≡ T.streams i t
  pub none : (i : ℕ) → (IsTrue (done i) → IsTrue (runs T.system i) → ⊥) → slice_index_or row i None ≡ None

-- equation i has its case at t, and a row has what happens at it and at its arguments
pub record HasHappened (T : Tale) (t i : ℕ) (e : Equation) (row : List (Option code.Outcome)) : Type 0 where
  pub solved : T.streams i t ≡ case_of T.inputs T.streams i e t
  pub here : row_at row i ≡ T.streams i t
  pub each : AllByRecursion (λ a. row_at row a ≡ T.streams a t) e.args
