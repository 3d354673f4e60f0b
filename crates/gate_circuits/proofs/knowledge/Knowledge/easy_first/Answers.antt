use Rattle.std.proofs.Common.{ℕ, List, Contains, ◌↔◌, ◌++◌, sym, ap, subst, ◌∙◌}
use Rattle.gate_circuits.proofs.Turns.{parted_more, parted_all}
use Rattle.gate_circuits.proofs.knowledge.Knowledge.easy_first.Goals as goal

pub gates-preserved : goal.gates-preserved
gates-preserved c =
    parted_more c.args.gates.now c.gates.first.items c.gates.others.items c.put.new.first.items c.put.new.others.items c.gates.gate-index c.gates-test.true c.gates.invariant c.in_ok-put.ensures

pub returns : goal.returns
returns c x =
    subst (λ (l : List ℕ). Contains l x ↔ Contains c.args.gates.now x)
    (sym (c.in_ok-extend_from_slice.ensures.items ∙ ap (λ (l : List ℕ). c.gates.first.items ++ l) c.deref.ensures.value))
    (parted_all c.args.gates.now c.gates.first.items c.gates.others.items c.gates.gate-index c.gates-test.false c.gates.invariant x)
