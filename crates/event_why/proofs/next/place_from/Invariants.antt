use Rattle.event_why.specs.inner.Coming.{IsPassed}
use Rattle.event_why.proofs.next.place_from.Given as goal

abbrev pub invariant-loop-k : goal.invariant-loop-k
invariant-loop-k l = IsPassed l.flat l.from l.lines l.k
