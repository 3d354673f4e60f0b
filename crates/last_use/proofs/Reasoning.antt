-- A set has one reason at most, and none where it is fine.
use Rattle.std.proofs.Common.{◌≡◌, ℕ, List, Option, None, Some, ap}
use Rattle.flat_core.specs.System.{System}
use Rattle.translation_order.proofs.Cycles.{walked_cycle, cycle_path, one_cycle}
use Rattle.alias_rules.specs.Conflict.{StandsBefore, IsKept, IsNotOverwritten, NoneKept, AllOverwritten, IsReasonCycle}
use Rattle.alias_rules.specs.Fine.{IsFine}
use Rattle.alias_rules.specs.Steps.{step_count}
use Rattle.alias_rules.proofs.Firsts.{one_first}
use Rattle.alias_nears.specs.declared.reason.Reason.{Reason}
use Rattle.alias_nears.specs.declared.reason.Reason.TheVariants.{Kept, NotOverwritten, Cycle}
use Rattle.alias_nears.specs.inner.Answer.{IsFirstConflict}
use Rattle.last_use.specs.inner.Choosing.{IsRefusal}
use Rattle.last_use.specs.inner.Cycles.{IsCycleOrNone}
use Rattle.last_use.specs.Reasons.{IsReason}

module _ (s : System) (set : List ℕ) where
  no_cycle_where_fine : IsFine s set → (steps : List ℕ) → IsReasonCycle s set steps → ⊥
  no_cycle_where_fine fine steps reason =
      let cycle = walked_cycle (step_count s) (StandsBefore s set) steps reason.cycle in
      fine.acyclic cycle.first (cycle_path (StandsBefore s set) steps cycle)

  pub none_where_fine : IsFine s set → (r : Reason) → IsReason s set r → ⊥
  none_where_fine fine (Kept y x) first = fine.none_kept y first.update.holds
  none_where_fine fine (NotOverwritten y v) first = fine.all_overwritten y first.first.update.holds
  none_where_fine fine (Cycle steps) reason = no_cycle_where_fine fine steps reason

  one_kept : (y x z w : ℕ) → IsReason s set (Kept y x) → IsReason s set (Kept z w) → Kept y x ≡ Kept z w
  one_kept y x z w p q = let same = one_first set (IsKept s set) y x z w p q in λ k. Kept (same.update k) (same.other k)

  one_not_overwritten : (y x z w : ℕ) → IsReason s set (NotOverwritten y x) → IsReason s set (NotOverwritten z w) → NotOverwritten y x ≡ NotOverwritten z w
  one_not_overwritten y x z w p q = let same = one_first set (IsNotOverwritten s set) y x z w p.first q.first in λ k. NotOverwritten (same.update k) (same.other k)

  pub one_reason : (r q : Reason) → IsReason s set r → IsReason s set q → r ≡ q
  one_reason (Kept y x) (Kept z w) a b = one_kept y x z w a b
  one_reason (Kept y x) (NotOverwritten z w) a b = absurd (b.none_kept y a.update.holds)
  one_reason (Kept y x) (Cycle steps) a b = absurd (b.none_kept y a.update.holds)
  one_reason (NotOverwritten y x) (Kept z w) a b = absurd (a.none_kept z b.update.holds)
  one_reason (NotOverwritten y x) (NotOverwritten z w) a b = one_not_overwritten y x z w a b
  one_reason (NotOverwritten y x) (Cycle steps) a b = absurd (b.all_overwritten y a.first.update.holds)
  one_reason (Cycle steps) (Kept z w) a b = absurd (a.none_kept z b.update.holds)
  one_reason (Cycle steps) (NotOverwritten z w) a b = absurd (a.all_overwritten z b.first.update.holds)
  one_reason (Cycle steps) (Cycle more) a b = ap Cycle (one_cycle (step_count s) (StandsBefore s set) steps more a.cycle b.cycle)

  pub conflict_is_reason : (r : Reason) → IsFirstConflict s set (Some r) → IsReason s set r
  conflict_is_reason (Kept y x) first = first
  conflict_is_reason (NotOverwritten y v) first = first
  conflict_is_reason (Cycle steps) first = absurd first

-- a set without a conflict is refused by the cycle of its pairs, if they have one
pub refusal_by : (s : System) (set : List ℕ) → NoneKept s set → AllOverwritten s set → (r : Option Reason) → IsCycleOrNone (step_count s) (StandsBefore s set) r → IsRefusal s set r
refusal_by s set kept overwritten None acyclic = record { none_kept = kept; all_overwritten = overwritten; acyclic = acyclic }
refusal_by s set kept overwritten (Some (Cycle steps)) cycle = record { none_kept = kept; all_overwritten = overwritten; cycle = cycle }
refusal_by s set kept overwritten (Some (Kept y x)) none = absurd none
refusal_by s set kept overwritten (Some (NotOverwritten y v)) none = absurd none
