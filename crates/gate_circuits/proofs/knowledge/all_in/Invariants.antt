use Rattle.std.proofs.Common.{◌≡◌, true, take}
use Rattle.std.specs.List.{list_all}
use Rattle.gate_circuits.specs.inner.Marks.{has}
use Rattle.gate_circuits.proofs.knowledge.all_in.Given as goal

abbrev pub invariant-loop-input : goal.invariant-loop-input
invariant-loop-input l = list_all (has l.set) (take l.input-index l.inputs) ≡ true
