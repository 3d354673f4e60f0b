use Rattle.event_why.specs.inner.Used.{NamesEarlier}
use Rattle.event_why.proofs.MarkLemmas.{AreMarkedFrom}
use Rattle.event_why.proofs.prune.mark_grounds.Given as goal

abbrev pub invariant-loop-place : goal.invariant-loop-place
invariant-loop-place l = NamesEarlier l.steps → AreMarkedFrom l.steps l.place l.initial.marks l.marks
