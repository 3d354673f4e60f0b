use Rattle.std.proofs.Common.{◌≡◌, ℕ, List, Some, sym, subst}
use Rattle.std.specs.Prelude.{slice_get}
use Rattle.gate_circuits.specs.declared.circuit.Gate.TheVariants as gate
use Rattle.gate_circuits.proofs.Rows.{got_gate}
use Rattle.gate_circuits.proofs.knowledge.Knowledge.row_of.Goals as goal

pub returns-then-has_no_room-clause-row : goal.returns-then-has_no_room-clause-row
returns-then-has_no_room-clause-row c = c.no_row.ensures c.args.self.now c.args.gate

pub sum_row-requires-clause-sum : goal.sum_row-requires-clause-sum
sum_row-requires-clause-sum c =
    subst (λ (l : List ℕ). slice_get c.args.self.now c.args.gate ≡ Some (gate.Any l)) (sym c.numbers.ensures)
    (got_gate c.gates.result.now c.args.self.now c.args.gate c.get.result c.in-Some-Any.field-0 _ c.get.ensures.lookup c.in-Some-Any.is c.in-Some-Any.field-0-is c.gates.ensures.value)

pub returns-in-None-clause-row : goal.returns-in-None-clause-row
returns-in-None-clause-row c = c.no_row-in-None.ensures c.args.self.now c.args.gate
