use Rattle.std.proofs.Common.{◌≡◌, ℕ, take}
use Rattle.flat_core.specs.Members.{is_in}
use Rattle.state_snapshot.proofs.Seen.{ids_of}
use Rattle.state_snapshot.proofs.read.equations_of.Given as goal

abbrev pub invariant-loop-event : goal.invariant-loop-event
invariant-loop-event l = (j : ℕ) → is_in l.set j ≡ is_in (ids_of (take l.event-index l.events)) j
