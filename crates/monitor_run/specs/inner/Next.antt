-- The next instant.
use Rattle.std.specs.Prelude.{◌≡◌, ℕ, ◌<◌, ◌≤◌, ◌⊎◌, List, [], ◌∷◌, Option, Some, None, IsTrue, IsFalse, nat_lt, if◌then◌else◌}
use Rattle.std.specs.List.{AllByRecursion, Contains}
use Rattle.std.specs.FinMap as map
use Rattle.delay_timers.specs.inner.Pending.{Times}
use Rattle.flat_core.specs.Case.{Streams}
use Rattle.flat_core.specs.Instant.{is_instant}
use Rattle.flat_core.specs.Line.{Line}
use Rattle.flat_core.specs.System.{System}
use Rattle.monitor_run.specs.inner.State.{State}

-- no instant comes from one time on and before another
abbrev pub NoInstant : System → List Line → Streams → ℕ → ℕ → Type 0
NoInstant s lines z from to = (u : ℕ) → from ≤ u → u < to → IsFalse (is_instant s lines z u)

-- the first instant from one time on and before another is t
pub record IsFirstInstant (s : System) (lines : List Line) (z : Streams) (from to t : ℕ) : Type 0 where
  pub late : from ≤ t
  pub early : t < to
  pub comes : IsTrue (is_instant s lines z t)
  pub first : NoInstant s lines z from t

-- nothing comes before a time: time 0 where nothing has run, a given event, a delay that is due
pub record NothingBefore (next : ℕ) (given : List Line) (timers : Times) (t : ℕ) : Type 0 where
  pub start : next ≡ 0 → t ≤ 0
  pub events : AllByRecursion (λ l. t ≤ l.time) given
  pub delays : (i u : ℕ) → map.get timers i ≡ Some u → t ≤ u

-- one of them comes at this time
abbrev pub Comes : ℕ → List Line → Times → ℕ → Type 0
Comes next given timers t =
    ((next ≡ 0) × (t ≡ 0))
    ⊎ ((l : Line) × Contains given l × (l.time ≡ t))
    ⊎ ((i : ℕ) × (map.get timers i ≡ Some t))

-- the first that comes, if anything does
abbrev pub IsFirstTime : ℕ → List Line → Times → Option ℕ → Type 0
IsFirstTime next given timers None = (bound : ℕ) → NothingBefore next given timers bound
IsFirstTime next given timers (Some t) = Comes next given timers t × NothingBefore next given timers t

-- the first that comes before a bound, if there is one
abbrev pub IsNextTime : ℕ → ℕ → List Line → Times → Option ℕ → Type 0
IsNextTime next bound given timers None = NothingBefore next given timers bound
IsNextTime next bound given timers (Some t) = (t < bound) × Comes next given timers t × NothingBefore next given timers t

-- no step is left to run
abbrev pub IsIdle : State → Type 0
IsIdle m = NothingBefore m.next m.given m.timers m.bound

-- the earlier of two times that may be there
abbrev pub earliest : Option ℕ → Option ℕ → Option ℕ
earliest None b = b
earliest (Some a) None = Some a
earliest (Some a) (Some b) = if nat_lt b a then Some b else Some a

-- the time of events that are all at one
abbrev pub time_if : ℕ → List Line → Option ℕ
time_if at [] = None
time_if at (l ∷ lines) = Some at
