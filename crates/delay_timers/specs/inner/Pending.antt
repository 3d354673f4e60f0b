-- What of a monitor's pending delays a caller sees.
use Rattle.std.specs.Prelude.{◌≡◌, ◌≢◌, ℕ, ◌<◌, ◌≤◌, Some, refl}
use Rattle.std.specs.Ordering.{nat_cmp}
use Rattle.std.specs.Coded.{Coded, code_by, coded×, coded_ℕ}
use Rattle.std.specs.FinMap as map

-- the time at which each pending delay is due
abbrev pub Times : Type 0
Times = map.FinMap nat_cmp ℕ

-- the delays that may be pending are those below the capacity
pub record Pending : Type 0 where
  pub capacity : ℕ
  pub times : Times

abbrev pub pending_code : Coded Pending
pending_code =
    code_by (ℕ × Times) (coded× coded_ℕ (map.code coded_ℕ coded_ℕ)) (λ p. (p.capacity, p.times))
    (λ p. record { capacity = p.0; times = p.1 }) (λ _. refl)

-- each delay that is due is below the capacity
abbrev pub AreBelowCapacity : Pending → Type 0
AreBelowCapacity pending = (delay time : ℕ) → map.get pending.times delay ≡ Some time → delay < pending.capacity

-- some delay is due at this time, and none is due earlier
pub record IsLeastTime (times : Times) (time : ℕ) : Type 0 where
  pub is_due : (delay : ℕ) × (map.get times delay ≡ Some time)
  pub least : (delay other : ℕ) → map.get times delay ≡ Some other → time ≤ other

-- no delay is due at this time
abbrev pub NoneIsDueAt : Times → ℕ → Type 0
NoneIsDueAt times time = (delay : ℕ) → map.get times delay ≢ Some time

-- this delay is due at this time, and none below it is
pub record IsLeastDueAt (times : Times) (time delay : ℕ) : Type 0 where
  pub is_due : map.get times delay ≡ Some time
  pub least : (other : ℕ) → other < delay → map.get times other ≢ Some time
