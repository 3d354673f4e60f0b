use Rattle.flat_core.specs.Pending.{option_is}
use Rattle.plain_solver.proofs.NextLemmas.{IsLeastOf}
use Rattle.event_why.specs.inner.Drafted.{due_of, fact_of}
use Rattle.event_why.proofs.next.least_due.Given as goal

abbrev pub invariant-loop-n : goal.invariant-loop-n
invariant-loop-n l = IsLeastOf l.flat (λ i u. option_is u (due_of (fact_of l.draft.steps.items l.draft.pending.numbers.items i))) l.n l.low l.high l.least
