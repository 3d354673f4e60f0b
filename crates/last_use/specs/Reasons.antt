-- Why updates do not happen in place.
use Rattle.std.specs.Prelude.{ℕ, List, map}
use Rattle.std.specs.List.{All}
use Rattle.flat_core.specs.System.{System}
use Rattle.alias_rules.specs.Conflict.{IsFirstKept, IsFirstNotOverwritten, IsReasonCycle}
use Rattle.alias_rules.specs.Fine.{with_tried}
use Rattle.alias_rules.specs.Outside.{AreOutside}
use Rattle.alias_nears.specs.declared.reason.Reason.{Reason}
use Rattle.alias_nears.specs.declared.reason.Reason.TheVariants as reason

-- The reason why the updates of a set cannot all happen in place: the first update that is kept, or else the first that is not
-- overwritten, or else the cycle that is answered for the pairs of the set.
abbrev pub IsReason : System → List ℕ → Reason → Type 0
IsReason s set (reason.Kept y x) = IsFirstKept s set y x
IsReason s set (reason.NotOverwritten y v) = IsFirstNotOverwritten s set y v
IsReason s set (reason.Cycle steps) = IsReasonCycle s set steps

abbrev pub updates_of : List (ℕ × Reason) → List ℕ
updates_of reasons = map (λ p. p.0) reasons

-- the updates outside a set, each with the reason of the set in which it was tried
pub record AreReasons (s : System) (set : List ℕ) (reasons : List (ℕ × Reason)) : Type 0 where
  pub outside : AreOutside s set (updates_of reasons)
  pub each : All (λ p. IsReason s (with_tried set p.0) p.1) reasons
