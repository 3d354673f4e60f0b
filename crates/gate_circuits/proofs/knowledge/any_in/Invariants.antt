use Rattle.std.proofs.Common.{◌≡◌, false, take}
use Rattle.std.specs.List.{list_any}
use Rattle.gate_circuits.specs.inner.Marks.{has}
use Rattle.gate_circuits.proofs.knowledge.any_in.Given as goal

abbrev pub invariant-loop-input : goal.invariant-loop-input
invariant-loop-input l = list_any (has l.set) (take l.input-index l.inputs) ≡ false
