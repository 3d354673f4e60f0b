-- The delay that is due first apart from the others.
use Rattle.std.specs.Prelude.{◌≡◌, ◌==◌, ℕ, ◌<◌, Bool, Option, Some, None, IsTrue, if◌then◌else◌}
use Rattle.std.specs.FinMap as map
use Rattle.delay_timers.specs.declared.tree.Due.{Due}
use Rattle.delay_timers.specs.inner.Pending.{Times, Pending, AreBelowCapacity}
use Rattle.delay_timers.specs.inner.Tournament.{IsBeforeAll}

abbrev pub with_first : Option Due → Times → Times
with_first None times = times
with_first (Some due) times = map.insert times due.delay due.time

-- all that is pending
abbrev pub with_others : Option Due → Pending → Pending
with_others first others = record { capacity = others.capacity; times = with_first first others.times }

-- nothing where it is this delay
abbrev pub other_than : Option Due → ℕ → Option Due
other_than None delay = None
other_than (Some due) delay = if due.delay == delay then None else Some due

-- it may be pending, is none of the others, and none of them comes before it
pub record CanStandApart (due : Due) (others : Pending) : Type 0 where
  pub there : due.delay < others.capacity
  pub absent : map.get others.times due.delay ≡ None
  pub before : IsBeforeAll due others.times

abbrev pub StandsApart : Option Due → Pending → Type 0
StandsApart None others = Unit {0}
StandsApart (Some due) others = CanStandApart due others

-- where the flag is set, no other is pending
pub record IsApart (first : Option Due) (is_clear : Bool) (others : Pending) : Type 0 where
  pub stands : StandsApart first others
  pub clear : IsTrue is_clear → others.times ≡ map.empty
  pub bounded : AreBelowCapacity others

-- this is due now, and all else is as it was
pub record IsArranged (first : Option Due) (others : Pending) (due : Due) (new_first : Option Due) (new_others : Pending) : Type 0 where
  pub room : new_others.capacity ≡ others.capacity
  pub times : with_first new_first new_others.times ≡ map.insert (with_first first others.times) due.delay due.time
  pub stands : StandsApart new_first new_others
