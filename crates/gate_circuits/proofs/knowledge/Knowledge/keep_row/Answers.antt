use Rattle.std.proofs.Common.{inl, inr}
use Rattle.gate_circuits.proofs.Rows.{row_implied}
use Rattle.gate_circuits.proofs.knowledge.Knowledge.keep_row.Goals as goal

pub returns-in-Some : goal.returns-in-Some
returns-in-Some c b h = (
  c.keep_either.ensures.kept b h,
  row_implied c.self.inside.circuit c.args.self.now c.self.inside.possible c.self.inside.rows.items c.deref.result.now c.args.gate c.get.result c.in-Some.row c.self.invariant c.self.view_is c.deref.ensures.value c.get.ensures.lookup c.in-Some.is b (elim (c.keep_either.ensures.from b h) [ inl s ↦ s | inr s ↦ s ]),
)
