-- What is kept between two instants, and nothing else.
use Rattle.std.specs.Prelude.{◌≡◌, ◌⊎◌, ℕ, Option, Some, None, IsFalse}
use Rattle.std.specs.List.{Contains}
use Rattle.std.specs.FinMap as finite_map
use Rattle.tsl_value.specs.View.{View}
use Rattle.flat_core.specs.Complete.{IsFlat}
use Rattle.flat_core.specs.Events.{Inputs}
use Rattle.flat_core.specs.Kept.{keeps_of, timers_of}
use Rattle.flat_core.specs.System.{System}
use Rattle.flat_core.specs.Updates.{is_running_update}
use Rattle.alias_rules.specs.Fine.{IsFinePlan}
use Rattle.register_machine.specs.Machine.{Cell}
use Rattle.register_machine.specs.Run.{Plan, State, Instant}

-- Only what is kept has a last register, whose cell is there, and each cell is held by one. Only running updates have copied elements,
-- and only running delays are pending.
pub record IsTidy (s : System) (a : State) : Type 0 where
  pub lasts : (v : ℕ) → (a.lasts v ≡ None) ⊎ Contains (keeps_of s) v
  pub there : (v h : ℕ) → a.lasts v ≡ Some (Cell h) → finite_map.get a.cells h ≡ None → ⊥
  pub named : (h : ℕ) (view : View) → finite_map.get a.cells h ≡ Some view → (v : ℕ) × Contains (keeps_of s) v × (a.lasts v ≡ Some (Cell h))
  pub ledger : (u : ℕ) → IsFalse (is_running_update s u) → a.ledger u ≡ 0
  pub pending : (i : ℕ) → (a.pending i ≡ None) ⊎ Contains (timers_of s) i

-- ---- laws

-- what an instant leaves is tidy where it was
abbrev pub InstantsKeepTidy : Type 0
InstantsKeepTidy =
    (s : System) (plan : Plan) (inputs : Inputs) (t : ℕ) (a b : State)
    → IsFlat s
    → IsFinePlan s plan.in_place plan.order
    → IsTidy s a
    → Instant s plan inputs t a b
    → IsTidy s b
