-- Handles by other names. Which handle a new cell gets is left open, so a run with other handles is a run too, and two runs differ in nothing else.
use Rattle.std.specs.Prelude.{◌≡◌, ℕ, List}
use Rattle.std.specs.Option.{option_map}
use Rattle.std.specs.FinMap as finite_map
use Rattle.flat_core.specs.Case.{Streams}
use Rattle.flat_core.specs.Events.{Inputs}
use Rattle.flat_core.specs.Line.{Line}
use Rattle.flat_core.specs.System.{System}
use Rattle.register_machine.specs.Machine.{Held, Bare, Cell}
use Rattle.register_machine.specs.Run.{Plan, State, Instant}
use Rattle.register_machine.specs.Stands.{RunsTo}

-- a change of handles that is one to one, and the way back
pub record Renaming : Type 0 where
  pub to : ℕ → ℕ
  pub back : ℕ → ℕ
  pub there : (h : ℕ) → back (to h) ≡ h
  pub here : (h : ℕ) → to (back h) ≡ h

abbrev pub renamed : (ℕ → ℕ) → Held → Held
renamed to (Bare s) = Bare s
renamed to (Cell h) = Cell (to h)

-- One state is the other with other handles: the same scalars are held, and the same cells by their new handles, each with its view. What was
-- counted and what is pending is the same.
pub record AreRenamed (r : Renaming) (a b : State) : Type 0 where
  pub lasts : (v : ℕ) → b.lasts v ≡ option_map (renamed r.to) (a.lasts v)
  pub cells : (h : ℕ) → finite_map.get b.cells (r.to h) ≡ finite_map.get a.cells h
  pub ledger : (u : ℕ) → b.ledger u ≡ a.ledger u
  pub pending : (i : ℕ) → b.pending i ≡ a.pending i

-- ---- laws

-- an instant with other handles is an instant
abbrev pub RenamedInstants : Type 0
RenamedInstants =
    (s : System) (plan : Plan) (inputs : Inputs) (t : ℕ) (r : Renaming) (a b c d : State)
    → AreRenamed r a c
    → AreRenamed r b d
    → Instant s plan inputs t a b
    → Instant s plan inputs t c d

-- and so is a run from the first state
abbrev pub RenamedRuns : Type 0
RenamedRuns =
    (s : System) (plan : Plan) (lines : List Line) (z : Streams) (t : ℕ) (r : Renaming) (a b : State)
    → AreRenamed r a b
    → RunsTo s plan lines z t a
    → RunsTo s plan lines z t b

-- Two runs over the same instants come to states that differ in their handles alone.
abbrev pub RunsAreOne : Type 0
RunsAreOne =
    (s : System) (plan : Plan) (lines : List Line) (z : Streams) (t : ℕ) (a b : State)
    → RunsTo s plan lines z t a
    → RunsTo s plan lines z t b
    → (r : Renaming) × AreRenamed r a b
