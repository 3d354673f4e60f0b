use Rattle.std.proofs.Common.{ap}
use Rattle.delay_timers.specs.inner.Pending.{Pending}
use Rattle.delay_timers.proofs.ApartLemmas.{none_yet}
use Rattle.delay_timers.proofs.timers.Timers.with_capacity.Goals as goal

pub invariant_of-result : goal.invariant_of-result
invariant_of-result c = none_yet c.in_ok-with_capacity.field-0 (ap (λ (p : Pending). p.times) c.in_ok-with_capacity.ensures)
