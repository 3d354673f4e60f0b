use Rattle.std.proofs.Common.{ℕ, sym, subst, inl, inr}
use Rattle.gate_circuits.specs.Circuit.{IsOn}
use Rattle.gate_circuits.proofs.knowledge.Knowledge.close_over.Goals as goal

pub loop-gate-preserved : goal.loop-gate-preserved
loop-gate-preserved c leaves on x h =
    let before = c.loop-gate.invariant leaves on in
    elim (c.add_if.ensures.from x h) [
      | inl was ↦ before x was
      | inr (is, same) ↦ subst (λ (n : ℕ). IsOn c.args.self.now leaves n) (sym same) (c.follows-follows.ensures is leaves before)
    ]
