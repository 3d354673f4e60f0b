use Rattle.gate_circuits.proofs.Rows.{row_if_some}
use Rattle.gate_circuits.proofs.knowledge.Knowledge.row.Goals as goal

pub returns : goal.returns
returns c = row_if_some c.self.inside.circuit c.args.self.now c.self.inside.possible c.self.inside.rows.items c.deref.result.now c.args.gate c.get.result c.self.invariant c.self.view_is c.deref.ensures.value c.get.ensures.lookup
