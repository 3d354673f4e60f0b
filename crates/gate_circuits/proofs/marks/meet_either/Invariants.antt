use Rattle.std.proofs.Common.{◌≡◌, ℕ, ◌<◌, ◌≤◌, get_or}
use Rattle.std.specs.Prelude.{bit_and, bit_or}
use Rattle.gate_circuits.proofs.marks.meet_either.Given as goal

abbrev pub invariant-loop-place : goal.invariant-loop-place
invariant-loop-place l = record {
  done : (k : ℕ) → k < l.place → get_or l.words k 0 ≡ bit_and (get_or l.initial.words k 0) (bit_or (get_or l.first k 0) (get_or l.second k 0));
  rest : (k : ℕ) → l.place ≤ k → get_or l.words k 0 ≡ get_or l.initial.words k 0;
}
