use Rattle.std.proofs.Common.{◌≡◌, ℕ, ◌<◌, ◌≤◌, get_or}
use Rattle.std.specs.Prelude.{bit_and}
use Rattle.std.specs.Int.{bit_not, w64}
use Rattle.gate_circuits.proofs.marks.subtract.Given as goal

abbrev pub invariant-loop-place : goal.invariant-loop-place
invariant-loop-place l = record {
  done : (k : ℕ) → k < l.place → get_or l.words k 0 ≡ bit_and (get_or l.initial.words k 0) (bit_not w64 (get_or l.other k 0));
  rest : (k : ℕ) → l.place ≤ k → get_or l.words k 0 ≡ get_or l.initial.words k 0;
}
