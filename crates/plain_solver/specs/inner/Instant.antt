-- What one step of an instant makes of the streams.
use Rattle.std.specs.Prelude.{◌≡◌, ◌≢◌, ℕ, ◌+◌, ◌<◌, ◌==◌, ◌&&◌, if◌then◌else◌, List, [], length, Option, Some, None, slice_index_or}
use Rattle.std.specs.Prelude.{IsTrue, IsFalse}
use Rattle.lift_func.specs.declared.fault.FaultKind.{FaultKind}
use Rattle.flat_core.specs.declared.equation.Equation.{Equation}
use Rattle.flat_core.specs.Case.{Streams, case_of}
use Rattle.flat_core.specs.Events.{Inputs}
use Rattle.flat_core.specs.Fault.{root_at}
use Rattle.flat_core.specs.System.{System, runs, equation}
use Rattle.plain_solver.specs.declared.events.Moment.{Moment}
use Rattle.plain_solver.specs.inner.Moments.{AllBefore}
use Rattle.plain_solver.specs.inner.Streams.{streams_of}
use Rattle.plain_solver.specs.inner.Typed.{AreTyped}

-- the new streams are the old ones with the outcome of equation i at t
pub record IsOneMore (s : System) (inputs : Inputs) (i t : ℕ) (old new : List (List Moment)) : Type 0 where
  pub one_each : length new ≡ length old
  pub others : (j : ℕ) → j ≢ i → slice_index_or new j [] ≡ slice_index_or old j []
  pub before : AllBefore (t + 1) (slice_index_or new i [])
  pub streams :
      (e : Equation) →
      equation s i ≡ Some e →
      (j u : ℕ) → streams_of new j u ≡ (if (j == i) && (u == t) then case_of inputs (streams_of old) i e t else streams_of old j u)

-- all streams end before a time
abbrev pub AreBefore : ℕ → List (List Moment) → Type 0
AreBefore t all = (i : ℕ) → AllBefore t (slice_index_or all i [])

-- The new streams are the old ones with what happens at t: at each running equation its case, of the equation's type.
pub record IsRun (s : System) (inputs : Inputs) (t : ℕ) (old new : List (List Moment)) : Type 0 where
  pub one_each : length new ≡ length old
  pub before : AreBefore (t + 1) new
  pub others : (j u : ℕ) → u ≢ t → streams_of new j u ≡ streams_of old j u
  pub here : (i : ℕ) (e : Equation) → IsTrue (runs s i) → equation s i ≡ Some e → streams_of new i t ≡ case_of inputs (streams_of new) i e t
  pub idle : (i : ℕ) → IsFalse (runs s i) → slice_index_or new i [] ≡ slice_index_or old i []
  pub typed : AreTyped s (streams_of new)

-- no running equation below n has a root fault at t
abbrev pub AreSound : System → Inputs → Streams → ℕ → ℕ → Type 0
AreSound s inputs z t n = (j : ℕ) → j < n → IsTrue (runs s j) → root_at s inputs z t j ≡ None

-- the least running equation with a root fault at t, and why
abbrev pub IsFirstRoot : System → Inputs → Streams → ℕ → Option (ℕ × FaultKind) → Type 0
IsFirstRoot s inputs z t None = AreSound s inputs z t (length s.equations)
IsFirstRoot s inputs z t (Some r) = IsTrue (runs s r.0) × (root_at s inputs z t r.0 ≡ Some r.1) × AreSound s inputs z t r.0
