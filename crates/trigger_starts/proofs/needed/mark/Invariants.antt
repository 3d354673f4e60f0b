use Rattle.std.proofs.Common.{Contains, take}
use Rattle.trigger_starts.specs.inner.Rules.{Marks}
use Rattle.trigger_starts.proofs.needed.mark.Given as goal

abbrev pub invariant-loop-arg : goal.invariant-loop-arg
invariant-loop-arg l = Marks (Contains (take l.arg-index l.args)) l.initial.marks l.marks
