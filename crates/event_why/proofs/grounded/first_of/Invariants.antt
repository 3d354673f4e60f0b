use Rattle.std.proofs.Common.{◌≡◌, ℕ, Contains, not, take}
use Rattle.event_why.specs.inner.Drafted.{happens_now}
use Rattle.event_why.proofs.grounded.first_of.Given as goal

abbrev pub invariant-loop-id : goal.invariant-loop-id
invariant-loop-id l = (a : ℕ) → Contains (take l.id-index l.e.args) a → happens_now l.draft a ≡ not l.has_event
