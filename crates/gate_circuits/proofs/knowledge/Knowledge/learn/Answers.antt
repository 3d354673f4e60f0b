use Rattle.std.proofs.Common.{ℕ, sym, subst, inl, inr}
use Rattle.gate_circuits.specs.Circuit.{IsOn}
use Rattle.gate_circuits.proofs.Rows.{row_implied}
use Rattle.gate_circuits.proofs.Turns.{one_from}
use Rattle.gate_circuits.proofs.knowledge.Knowledge.learn.Goals as goal

pub returns-in-Some : goal.returns-in-Some
returns-in-Some c leaves on is x h = elim (c.add_all.ensures.from x h) [
  | inl was ↦ elim (one_from c.args.known.now c.add.new.self c.args.gate c.add.ensures.others x was) [
    | inl old ↦ on x old
    | inr same ↦ subst (λ (n : ℕ). IsOn c.args.self.now leaves n) (sym same) is
  ]
  | inr row ↦ row_implied c.self.inside.circuit c.args.self.now c.self.inside.possible c.self.inside.rows.items c.deref.result.now c.args.gate c.get.result c.in-Some.row c.self.invariant c.self.view_is c.deref.ensures.value c.get.ensures.lookup c.in-Some.is x row leaves is
]
