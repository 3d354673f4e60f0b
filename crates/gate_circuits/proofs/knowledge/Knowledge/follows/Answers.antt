use Rattle.std.proofs.Common.{refl, sym, ◌∙◌}
use Rattle.gate_circuits.specs.inner.Marks.{has}
use Rattle.gate_circuits.proofs.Gates.{closed}
use Rattle.gate_circuits.proofs.Rows.{got_gate}
use Rattle.gate_circuits.proofs.knowledge.Knowledge.follows.Goals as goal

pub returns-in-Some : goal.returns-in-Some
returns-in-Some c t leaves on =
    closed c.args.self.now leaves (has c.args.known.now) c.args.gate c.in-Some.it.now
    (got_gate c.gates.result.now c.args.self.now c.args.gate c.get.result c.in-Some.it c.in-Some.it.now c.get.ensures.lookup c.in-Some.is refl (c.gates.ensures.value ∙ c.self.view_is))
    (sym c.value.ensures ∙ t) on
