use Rattle.std.proofs.Common.{◌≡◌, ◌++◌, drop}
use Rattle.event_why.specs.inner.Drafted.{there}
use Rattle.event_why.proofs.draft.numbers_of.Given as goal

abbrev pub invariant-loop-number : goal.invariant-loop-number
invariant-loop-number l = l.by.items ++ there (drop l.number-index l.numbers) ≡ there l.numbers
