-- Laws of the register machine: with a fine plan it shows the solution, so that updates in place cannot be seen.
use Rattle.std.specs.Prelude.{◌≡◌, ℕ, suc, ◌<◌, ◌≤◌, ◌↔◌, true, false, List, ◌∷◌, ◌++◌, length, IsTrue, IsFalse}
use Rattle.std.specs.FinMap as finite_map
use Rattle.flat_core.specs.Case.{Streams}
use Rattle.flat_core.specs.Fault.{root_at, is_faulty}
use Rattle.flat_core.specs.inner.BoundLaws.{AreFrom}
use Rattle.flat_core.specs.Instant.{is_instant}
use Rattle.flat_core.specs.Line.{Line, inputs_of}
use Rattle.flat_core.specs.Stream.{event}
use Rattle.flat_core.specs.System.{System, runs}
use Rattle.register_machine.specs.Content.{LeavesRead, print_of}
use Rattle.register_machine.specs.Machine.{Instr, Print, Config, value_in, Steps}
use Rattle.register_machine.specs.Run.{Plan, State, Instant, body, ending, started, root_seen, has_root}
use Rattle.register_machine.specs.Stands.{IsGiven, RunsTo, Stands, IsCounted, stored}

-- at each time up to the bound, for each state to which a run has come
abbrev pub BetweenInstants : (System → Plan → List Line → ℕ → Streams → ℕ → State → Type 0) → Type 0
BetweenInstants P =
    (s : System) (plan : Plan) (lines : List Line) (bound : ℕ) (z : Streams)
    → IsGiven s plan lines bound z
    → (t : ℕ)
    → t ≤ bound
    → (a : State)
    → RunsTo s plan lines z t a
    → P s plan lines bound z t a

-- at each time below the bound, for each state to which a run has come
abbrev pub AtEachInstant : (System → Plan → List Line → Streams → ℕ → State → Type 0) → Type 0
AtEachInstant P =
    (s : System) (plan : Plan) (lines : List Line) (bound : ℕ) (z : Streams)
    → IsGiven s plan lines bound z
    → (t : ℕ)
    → t < bound
    → (a : State)
    → RunsTo s plan lines z t a
    → P s plan lines z t a

-- the instant at t from a state reaches its last print with a configuration
abbrev pub Reaches : System → Plan → List Line → ℕ → State → Config → Type 0
Reaches s plan lines t a c = Steps (inputs_of lines) t s (body s plan) (started a) c

-- Each run in place leaves what is still read: in an instant that goes on, up to its end, and in the instant of a root fault up to its
-- last print.
pub record LeavesWhatIsRead (s : System) (plan : Plan) (lines : List Line) (t : ℕ) (a : State) : Type 0 where
  pub where_sound : (b : State)
      → Instant s plan (inputs_of lines) t a b
      → LeavesRead (inputs_of lines) t s false (body s plan ++ ending s) (started a)
  pub where_faulty : LeavesRead (inputs_of lines) t s true (body s plan) (started a)

abbrev pub UpdatesLeaveWhatIsRead : Type 0
UpdatesLeaveWhatIsRead = AtEachInstant (λ s plan lines z t a. LeavesWhatIsRead s plan lines t a)

-- Each print of the instant at t shows its output's event, when it is reached; and after the last print the root faults are those of the
-- solution, each with its kind.
pub record ShowsInstant (s : System) (plan : Plan) (lines : List Line) (z : Streams) (t : ℕ) (a : State) : Type 0 where
  pub prints : (before after : List Instr) (k : ℕ) (c : Config)
      → body s plan ≡ before ++ Print k ∷ after
      → Steps (inputs_of lines) t s before (started a) c
      → value_in c (print_of s k) ≡ event (z (print_of s k) t)
  pub root_faults : (c : Config)
      → Reaches s plan lines t a c
      → (i : ℕ)
      → IsTrue (runs s i)
      → root_seen s c i ≡ root_at s (inputs_of lines) z t i
  pub some_root_fault : (c : Config) → Reaches s plan lines t a c → has_root s c ≡ is_faulty s (inputs_of lines) z t

abbrev pub RunsShowTheSolution : Type 0
RunsShowTheSolution = AtEachInstant ShowsInstant

-- Two fine plans of a system, whichever updates happen in place by each, print the same and have the same root faults.
pub record LookAlike (s : System) (p q : Plan) (lines : List Line) (t : ℕ) (a b : State) : Type 0 where
  pub prints : (p_before p_after q_before q_after : List Instr) (k : ℕ) (c d : Config)
      → body s p ≡ p_before ++ Print k ∷ p_after
      → Steps (inputs_of lines) t s p_before (started a) c
      → body s q ≡ q_before ++ Print k ∷ q_after
      → Steps (inputs_of lines) t s q_before (started b) d
      → value_in c (print_of s k) ≡ value_in d (print_of s k)
  pub root_faults : (c d : Config)
      → Reaches s p lines t a c
      → Reaches s q lines t b d
      → (i : ℕ)
      → IsTrue (runs s i)
      → root_seen s c i ≡ root_seen s d i

abbrev pub PlansLookAlike : Type 0
PlansLookAlike =
    (s : System) (p q : Plan) (lines : List Line) (bound : ℕ) (z : Streams)
    → IsGiven s p lines bound z
    → IsGiven s q lines bound z
    → (t : ℕ)
    → t < bound
    → (a b : State)
    → RunsTo s p lines z t a
    → RunsTo s q lines z t b
    → LookAlike s p q lines t a b

-- what stays between instants is as the solution has it
abbrev pub RunsStand : Type 0
RunsStand = BetweenInstants (λ s plan lines bound z t a. Stands s plan z t a)

-- The ledger counts copied elements, between instants and after the last print of an instant, that of a root fault included.
pub record CountsCopies (s : System) (plan : Plan) (lines : List Line) (bound : ℕ) (z : Streams) (t : ℕ) (a : State) : Type 0 where
  pub between : IsCounted s plan z t a.ledger
  pub within : t < bound → (c : Config) → Reaches s plan lines t a c → IsCounted s plan z (suc t) c.ledger

abbrev pub LedgersCountCopies : Type 0
LedgersCountCopies = BetweenInstants CountsCopies

-- there are at most as many cells as stored variables
abbrev pub CellsAreBounded : Type 0
CellsAreBounded = BetweenInstants (λ s plan lines bound z t a. finite_map.len a.cells ≤ length (stored s))

-- Each instant reaches its last print, and without a root fault its end.
pub record GoesOn (s : System) (plan : Plan) (lines : List Line) (z : Streams) (t : ℕ) (a : State) : Type 0 where
  pub reaches : (c : Config) × Reaches s plan lines t a c
  pub ends : IsFalse (is_faulty s (inputs_of lines) z t) → (b : State) × Instant s plan (inputs_of lines) t a b

abbrev pub SoundInstantsGoOn : Type 0
SoundInstantsGoOn = AtEachInstant GoesOn

-- so there is a run over all instants before the first root fault
abbrev pub RunsExist : Type 0
RunsExist =
    (s : System) (plan : Plan) (lines : List Line) (bound : ℕ) (z : Streams)
    → IsGiven s plan lines bound z
    → (t : ℕ)
    → t ≤ bound
    → ((u : ℕ) → u < t → IsFalse (is_faulty s (inputs_of lines) z u))
    → (a : State) × RunsTo s plan lines z t a

-- A run goes on over the next instant, and over a time that is none.
pub record RunsOn (s : System) (plan : Plan) (lines : List Line) (z : Streams) (t : ℕ) (a : State) : Type 0 where
  pub over_instant : IsTrue (is_instant s lines z t)
      → (b : State)
      → Instant s plan (inputs_of lines) t a b
      → RunsTo s plan lines z (suc t) b
  pub over_gap : IsFalse (is_instant s lines z t) → RunsTo s plan lines z (suc t) a

abbrev pub RunsGoOn : Type 0
RunsGoOn =
    (s : System) (plan : Plan) (lines : List Line) (z : Streams) (t : ℕ) (a : State)
    → RunsTo s plan lines z t a
    → RunsOn s plan lines z t a

-- lines from t on change no run over the instants below t
abbrev pub LaterLinesLeaveRuns : Type 0
LaterLinesLeaveRuns =
    (s : System) (plan : Plan) (ls more : List Line) (z : Streams) (t : ℕ) (a : State)
    → AreFrom t more
    → RunsTo s plan ls z t a ↔ RunsTo s plan (ls ++ more) z t a
