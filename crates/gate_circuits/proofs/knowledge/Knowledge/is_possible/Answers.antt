use Rattle.std.proofs.Common.{List, sym, subst, ◌∙◌}
use Rattle.gate_circuits.specs.declared.circuit.Gate.{Gate}
use Rattle.gate_circuits.specs.inner.Knowledge.{IsNever}
use Rattle.gate_circuits.proofs.knowledge.Knowledge.is_possible.Goals as goal

pub returns : goal.returns
returns c off = subst (λ (g : List Gate). IsNever g c.args.gate) c.self.view_is (c.self.invariant.never c.args.gate (sym c.has.ensures ∙ off))
