use Rattle.std.proofs.Common.{◌≤◌, Contains, take}
use Rattle.trigger_starts.specs.inner.AtomLists.{AddsSome}
use Rattle.trigger_starts.proofs.atoms.Atoms.others.Given as goal

abbrev pub invariant-loop-atom : goal.invariant-loop-atom
invariant-loop-atom l = record {
  low : l.others ≤ l.atom-index;
  some : AddsSome l.fn.self (Contains (take l.atom-index l.fn.other)) l.others;
}
