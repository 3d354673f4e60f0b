use Rattle.std.proofs.Common.{List, ◌++◌, drop, length}
use Rattle.event_why.specs.declared.fact.WhyStep.{WhyStep}
use Rattle.event_why.specs.inner.Pruned.{AreKept}
use Rattle.event_why.proofs.prune.kept_steps.Given as goal

abbrev pub invariant-loop-place : goal.invariant-loop-place
invariant-loop-place l =
    (rest : List WhyStep) →
    AreKept l.numbers (drop (length l.yielded) l.marks) (drop (length l.yielded) l.fn.steps.items) rest →
    AreKept l.numbers l.marks l.fn.steps.items (l.kept.items ++ rest)
