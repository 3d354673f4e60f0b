use Rattle.std.proofs.Common.{◌≡◌, ℕ, ◌/◌, ◌<◌, List, length, Some, refl, sym, subst, inl, inr, arith}
use Rattle.std.specs.Prelude.{slice_get}
use Rattle.std.proofs.lemmas.List.Elements.{All-contains}
use Rattle.gate_circuits.specs.declared.circuit.Gate.TheVariants as gate
use Rattle.gate_circuits.proofs.Rows.{got_gate}
use Rattle.gate_circuits.proofs.Turns.{input_room, one_kept, one_from, forced_all, forced_one, held_leaf, held_all, held_any}
use Rattle.gate_circuits.proofs.knowledge.Knowledge.settle.Goals as goal

pub returns-in-Some-Leaf-clause-seen : goal.returns-in-Some-Leaf-clause-seen
returns-in-Some-Leaf-clause-seen c =
    held_leaf c.args.self.now c.args.turn.now.wanted c.args.gate
    (got_gate c.gates.result.now c.args.self.now c.args.gate c.get.result c.in-Some-Leaf.field-0 gate.Leaf c.get.ensures.lookup c.in-Some-Leaf.is c.in-Some-Leaf.field-0-is c.gates.ensures.value)

pub returns-in-Some-All-clause-narrowed : goal.returns-in-Some-All-clause-narrowed
returns-in-Some-All-clause-narrowed c =
    let is = got_gate c.gates.result.now c.args.self.now c.args.gate c.get.result c.in-Some-All.field-0 _ c.get.ensures.lookup c.in-Some-All.is c.in-Some-All.field-0-is c.gates.ensures.value in
    record {
      room = c.add_each.ensures.room;
      kept = c.add_each.ensures.kept;
      forced = forced_all c.args.self.now c.args.turn.now.wanted c.add_each.new.self c.args.gate c.numbers.result.now
          (subst (λ (l : List ℕ). slice_get c.args.self.now c.args.gate ≡ Some (gate.All l)) (sym c.numbers.ensures) is) c.requires.wanted c.add_each.ensures.from;
      known = refl;
    }

pub returns-in-Some-All-clause-seen : goal.returns-in-Some-All-clause-seen
returns-in-Some-All-clause-seen c =
    let gates = c.args.self.now in
    let inputs = c.numbers.result.now in
    let is : slice_get gates c.args.gate ≡ Some (gate.All inputs) =
    subst (λ (l : List ℕ). slice_get gates c.args.gate ≡ Some (gate.All l)) (sym c.numbers.ensures)
    (got_gate c.gates.result.now c.args.self.now c.args.gate c.get.result c.in-Some-All.field-0 _ c.get.ensures.lookup c.in-Some-All.is c.in-Some-All.field-0-is c.gates.ensures.value) in
    held_all gates c.add_each.new.self c.args.gate c.gates.ensures.ordered inputs is (λ i contains.
    let low : i < c.args.gate = All-contains (λ n. n < c.args.gate) inputs i (c.gates.ensures.ordered c.args.gate (gate.All inputs) is) contains in
    c.add_each.ensures.there i contains (omega (arith, c.requires.turn.room, input_room gates c.args.gate (gate.All inputs) is i low)))

pub returns-in-Some-All-clause-lower : goal.returns-in-Some-All-clause-lower
returns-in-Some-All-clause-lower c x h =
    let gates = c.args.self.now in
    let inputs = c.numbers.result.now in
    let is : slice_get gates c.args.gate ≡ Some (gate.All inputs) =
    subst (λ (l : List ℕ). slice_get gates c.args.gate ≡ Some (gate.All l)) (sym c.numbers.ensures)
    (got_gate c.gates.result.now c.args.self.now c.args.gate c.get.result c.in-Some-All.field-0 _ c.get.ensures.lookup c.in-Some-All.is c.in-Some-All.field-0-is c.gates.ensures.value) in
    elim (c.add_each.ensures.from x h) [
      | inl was ↦ inl was
      | inr contains ↦ inr (All-contains (λ n. n < c.args.gate) inputs x (c.gates.ensures.ordered c.args.gate (gate.All inputs) is) contains)
    ]

pub returns-in-Some-clause-narrowed : goal.returns-in-Some-clause-narrowed
returns-in-Some-clause-narrowed c =
    let gates = c.args.self.now in
    let inputs = c.numbers-in-Some-Any.result.now in
    let is : slice_get gates c.args.gate ≡ Some (gate.Any inputs) =
    subst (λ (l : List ℕ). slice_get gates c.args.gate ≡ Some (gate.Any l)) (sym c.numbers-in-Some-Any.ensures)
    (got_gate c.gates.result.now c.args.self.now c.args.gate c.get.result c.in-Some-Any.field-0 _ c.get.ensures.lookup c.in-Some-Any.is c.in-Some-Any.field-0-is c.gates.ensures.value) in
    let i = c.in-Some.input in
    let low : i < c.args.gate = All-contains (λ n. n < c.args.gate) inputs i (c.gates.ensures.ordered c.args.gate (gate.Any inputs) is) c.in-Some.ensures.0 in
    let fits : i / 64 < length c.args.turn.now.wanted = omega (arith, c.requires.turn.room, input_room gates c.args.gate (gate.Any inputs) is i low) in
    record {
      room = c.add.ensures.room;
      kept = one_kept c.args.turn.now.wanted c.add.new.self i (c.add.ensures.here fits) c.add.ensures.others;
      forced = forced_one gates c.args.turn.now.wanted c.add.new.self c.args.turn.now.known i c.requires.turn.known c.in-Some.ensures.1 c.add.ensures.others;
      known = refl;
    }

pub returns-in-Some-clause-seen : goal.returns-in-Some-clause-seen
returns-in-Some-clause-seen c =
    let gates = c.args.self.now in
    let inputs = c.numbers-in-Some-Any.result.now in
    let is : slice_get gates c.args.gate ≡ Some (gate.Any inputs) =
    subst (λ (l : List ℕ). slice_get gates c.args.gate ≡ Some (gate.Any l)) (sym c.numbers-in-Some-Any.ensures)
    (got_gate c.gates.result.now c.args.self.now c.args.gate c.get.result c.in-Some-Any.field-0 _ c.get.ensures.lookup c.in-Some-Any.is c.in-Some-Any.field-0-is c.gates.ensures.value) in
    let i = c.in-Some.input in
    let low : i < c.args.gate = All-contains (λ n. n < c.args.gate) inputs i (c.gates.ensures.ordered c.args.gate (gate.Any inputs) is) c.in-Some.ensures.0 in
    let fits : i / 64 < length c.args.turn.now.wanted = omega (arith, c.requires.turn.room, input_room gates c.args.gate (gate.Any inputs) is i low) in
    held_any gates c.add.new.self c.args.gate c.gates.ensures.ordered inputs is i c.in-Some.ensures.0 (c.add.ensures.here fits)

pub returns-in-None-choice-clause-seen : goal.returns-in-None-choice-clause-seen
returns-in-None-choice-clause-seen c =
    (_, got_gate c.gates.result.now c.args.self.now c.args.gate c.get.result c.in-Some-Any.field-0 _ c.get.ensures.lookup c.in-Some-Any.is c.in-Some-Any.field-0-is c.gates.ensures.value)

pub returns-in-Some-clause-lower : goal.returns-in-Some-clause-lower
returns-in-Some-clause-lower c x h =
    let gates = c.args.self.now in
    let inputs = c.numbers-in-Some-Any.result.now in
    let is : slice_get gates c.args.gate ≡ Some (gate.Any inputs) =
    subst (λ (l : List ℕ). slice_get gates c.args.gate ≡ Some (gate.Any l)) (sym c.numbers-in-Some-Any.ensures)
    (got_gate c.gates.result.now c.args.self.now c.args.gate c.get.result c.in-Some-Any.field-0 _ c.get.ensures.lookup c.in-Some-Any.is c.in-Some-Any.field-0-is c.gates.ensures.value) in
    let i = c.in-Some.input in
    let low : i < c.args.gate = All-contains (λ n. n < c.args.gate) inputs i (c.gates.ensures.ordered c.args.gate (gate.Any inputs) is) c.in-Some.ensures.0 in
    elim (one_from c.args.turn.now.wanted c.add.new.self i c.add.ensures.others x h) [
      | inl was ↦ inl was
      | inr same ↦ inr (subst (λ (n : ℕ). n < c.args.gate) (sym same) low)
    ]
