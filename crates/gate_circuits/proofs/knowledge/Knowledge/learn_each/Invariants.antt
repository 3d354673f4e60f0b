use Rattle.std.proofs.Common.{ℕ, Bool, Contains}
use Rattle.gate_circuits.specs.Circuit.{IsOn}
use Rattle.gate_circuits.specs.inner.Knowledge.{AreAllOn}
use Rattle.gate_circuits.proofs.knowledge.Knowledge.learn_each.Given as goal

abbrev pub invariant-gates : goal.invariant-gates
invariant-gates l = (leaves : ℕ → Bool) → AreAllOn l.self leaves l.initial.known → ((i : ℕ) → Contains l.gates i → IsOn l.self leaves i) → AreAllOn l.self leaves l.known
