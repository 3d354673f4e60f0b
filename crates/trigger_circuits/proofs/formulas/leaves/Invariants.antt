use Rattle.std.proofs.Common.{◌≡◌, ◌*◌, length}
use Rattle.trigger_circuits.specs.inner.Circuits.{IsBegun}
use Rattle.trigger_circuits.proofs.formulas.leaves.Given as goal

abbrev pub invariant-loop-index : goal.invariant-loop-index
invariant-loop-index l = record {
  begun : IsBegun l._index l.circuit;
  many : length l.circuit ≡ 2 * l._index;
}
