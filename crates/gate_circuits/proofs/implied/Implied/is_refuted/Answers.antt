use Rattle.std.proofs.Common.{List, sym, subst, ◌∙◌}
use Rattle.gate_circuits.specs.declared.circuit.Gate.{Gate}
use Rattle.gate_circuits.specs.inner.Knowledge.{IsRefuted}
use Rattle.gate_circuits.proofs.Rows.{row_refuted}
use Rattle.gate_circuits.proofs.implied.Implied.is_refuted.Goals as goal

pub returns-in-Some : goal.returns-in-Some
returns-in-Some c t implies =
    let nay : IsRefuted c.args.self.now c.args.pair.first c.args.pair.second =
    subst (λ (g : List Gate). IsRefuted g c.args.pair.first c.args.pair.second) c.self.view_is
    (row_refuted c.self.inside.knowledge c.self.inside.refuted.items c.deref.result.now c.args.pair.first c.get.result c.in-Some.row c.self.invariant c.deref.ensures.value c.get.ensures.lookup c.in-Some.is c.args.pair.second (sym c.has.ensures ∙ t)) in
    nay.off (implies nay.leaves nay.on)
