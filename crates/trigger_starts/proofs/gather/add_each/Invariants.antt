use Rattle.std.proofs.Common.{take}
use Rattle.trigger_starts.specs.inner.AtomLists.{Adds, IsInSome}
use Rattle.trigger_starts.proofs.gather.add_each.Given as goal

abbrev pub invariant-loop-arg : goal.invariant-loop-arg
invariant-loop-arg l = Adds l.initial.atoms (IsInSome l.all (take l.arg-index l.args)) l.atoms
