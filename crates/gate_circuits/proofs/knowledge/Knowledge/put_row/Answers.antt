use Rattle.std.proofs.Common.{List, sym, subst}
use Rattle.gate_circuits.specs.declared.circuit.Gate.{Gate}
use Rattle.gate_circuits.specs.inner.Knowledge.{AreImplied}
use Rattle.gate_circuits.proofs.Rows.{rows_set}
use Rattle.gate_circuits.proofs.knowledge.Knowledge.put_row.Goals as goal

pub invariant_of-self : goal.invariant_of-self
invariant_of-self c = record {
  never = c.self.invariant.never;
  sound = rows_set (AreImplied c.self.inside.circuit) c.self.inside.rows.items c.args.gate c.args.row c.self.invariant.sound (subst (λ (g : List Gate). AreImplied g c.args.gate c.args.row) (sym c.self.view_is) c.requires);
}
