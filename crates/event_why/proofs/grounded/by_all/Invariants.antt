use Rattle.std.proofs.Common.{◌≡◌, ◌++◌, drop, map}
use Rattle.event_why.specs.inner.Drafted.{number_at, there}
use Rattle.event_why.proofs.grounded.by_all.Given as goal

abbrev pub invariant-loop-id : goal.invariant-loop-id
invariant-loop-id l = l.by.items ++ there (map (number_at l.draft.here.numbers.items) (drop l.id-index l.e.args)) ≡ there (map (number_at l.draft.here.numbers.items) l.e.args)
