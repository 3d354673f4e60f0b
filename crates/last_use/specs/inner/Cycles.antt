-- The cycle that is answered, if there is one, as a reason.
use Rattle.std.specs.Prelude.{ℕ, Option, MatchOption}
use Rattle.translation_order.specs.Cycle.{IsCycleOfWalk}
use Rattle.translation_order.specs.Graph.{IsAcyclic}
use Rattle.alias_nears.specs.declared.reason.Reason.{Reason}
use Rattle.alias_nears.specs.declared.reason.Reason.TheVariants as reason

abbrev pub IsCycleReason : ℕ → (ℕ → ℕ → Type 0) → Reason → Type 0
IsCycleReason steps E (reason.Cycle cycle) = IsCycleOfWalk steps E cycle
IsCycleReason steps E (reason.Kept y x) = ⊥
IsCycleReason steps E (reason.NotOverwritten y v) = ⊥

abbrev pub IsCycleOrNone : ℕ → (ℕ → ℕ → Type 0) → Option Reason → Type 0
IsCycleOrNone steps E r = MatchOption r (IsAcyclic E) (IsCycleReason steps E)
