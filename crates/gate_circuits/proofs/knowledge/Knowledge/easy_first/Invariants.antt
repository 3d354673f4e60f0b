use Rattle.std.proofs.Common.{ℕ, ◌↔◌, ◌⊎◌, Contains, take}
use Rattle.gate_circuits.proofs.knowledge.Knowledge.easy_first.Given as goal

abbrev pub invariant-gates : goal.invariant-gates
invariant-gates l = (x : ℕ) → (Contains l.first.items x ⊎ Contains l.others.items x) ↔ Contains (take l.gate-index l.gates) x
