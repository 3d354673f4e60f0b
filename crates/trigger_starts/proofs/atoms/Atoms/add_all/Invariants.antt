use Rattle.std.proofs.Common.{take}
use Rattle.std.specs.List.{Contains}
use Rattle.trigger_starts.specs.inner.AtomLists.{Adds}
use Rattle.trigger_starts.proofs.atoms.Atoms.add_all.Given as goal

abbrev pub invariant-loop-atom : goal.invariant-loop-atom
invariant-loop-atom l = Adds l.initial.self (Contains (take l.atom-index l.atoms)) l.self
