-- What is given of a system, a plan and a solution, and what the states of runs stand for.
use Rattle.std.specs.Prelude.{◌≡◌, ℕ, ◌≤◌, ◌^◌, Bool, false, if◌then◌else◌, nat_lt, List, [], ◌∷◌, Option, Some, None, IsTrue}
use Rattle.std.specs.List.{Contains, filter}
use Rattle.std.specs.Option.{option_and_then}
use Rattle.std.specs.FinMap as finite_map
use Rattle.flat_core.specs.declared.equation.Equation.{Equation}
use Rattle.flat_core.specs.declared.equation.Op.TheVariants as op
use Rattle.flat_core.specs.Case.{Streams}
use Rattle.flat_core.specs.Complete.{IsFlat}
use Rattle.flat_core.specs.Instant.{instants}
use Rattle.flat_core.specs.Line.{Line, inputs_of}
use Rattle.flat_core.specs.Pending.{pending}
use Rattle.flat_core.specs.Solution.{Solves}
use Rattle.flat_core.specs.Stream.{latest}
use Rattle.flat_core.specs.System.{System, runs, equation}
use Rattle.tsl_value.specs.Aggregate.{is_aggregate}
use Rattle.flat_core.specs.inner.TypedLines.{AreTypedLines}
use Rattle.alias_rules.specs.Fine.{IsFinePlan}
use Rattle.alias_rules.specs.Sharing.{Shares}
use Rattle.alias_rules.specs.Uses.{IsUpdate}
use Rattle.register_machine.specs.Copied.{copied}
use Rattle.register_machine.specs.Machine.{Cell, view_of}
use Rattle.register_machine.specs.Run.{Plan, State, Runs, nothing_yet}
use Rattle.flat_core.specs.Kept.{keeps_of}

-- A flat system, a plan of it whose updates may happen in place, lines of typed events, and what solves the system for these lines below
-- a bound. All times are below 2^63. That there is such a plan puts the running equations in dependency order, so no more is asked of them.
pub record IsGiven (s : System) (plan : Plan) (lines : List Line) (bound : ℕ) (z : Streams) : Type 0 where
  pub flat : IsFlat s
  pub fine : IsFinePlan s plan.in_place plan.order
  pub typed_lines : AreTypedLines s lines
  pub solves : Solves s (inputs_of lines) bound z
  pub small : bound ≤ 2 ^ 63

-- a run from the first state over all instants of the solution below t
abbrev pub RunsTo : System → Plan → List Line → Streams → ℕ → State → Type 0
RunsTo s plan lines z t a = Runs s plan (inputs_of lines) (instants s lines z t) nothing_yet a

-- a time at which a delay is due, if there is such a time
abbrev pub in_time : Option ℕ → Option ℕ
in_time None = None
in_time (Some t) = if nat_lt t (2 ^ 63) then Some t else None

-- A state stands for what happens before t: the last registers have the latest events, their cells are there, and those that hold one
-- cell belong to variables that share; and the delays are pending that are pending in the solution.
pub record Stands (s : System) (plan : Plan) (z : Streams) (t : ℕ) (a : State) : Type 0 where
  pub latest_events : (v : ℕ) → Contains (keeps_of s) v → option_and_then (view_of a.cells) (a.lasts v) ≡ latest (z v) t
  pub cells_there : (v h : ℕ) → a.lasts v ≡ Some (Cell h) → finite_map.get a.cells h ≡ None → ⊥
  pub one_cell : (u v h : ℕ) → a.lasts u ≡ Some (Cell h) → a.lasts v ≡ Some (Cell h) → Shares s plan.in_place u v
  pub delays : (i d r : ℕ) (e : Equation)
      → IsTrue (runs s i)
      → equation s i ≡ Some e
      → e.op ≡ op.Delay
      → e.args ≡ d ∷ r ∷ []
      → a.pending i ≡ in_time (pending (z d) (z r) (z i) t)

-- the ledger has what each running update has copied before t
abbrev pub IsCounted : System → Plan → Streams → ℕ → (ℕ → ℕ) → Type 0
IsCounted s plan z t ledger = (u : ℕ) → IsUpdate s u → ledger u ≡ copied s plan.in_place z u t

-- the stored variables: what is kept of an aggregate's type
abbrev pub is_aggregate_at : Option Equation → Bool
is_aggregate_at None = false
is_aggregate_at (Some e) = is_aggregate e.of

abbrev pub stored : System → List ℕ
stored s = filter (λ v. is_aggregate_at (equation s v)) (keeps_of s)
