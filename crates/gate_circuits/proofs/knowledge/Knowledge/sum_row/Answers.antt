use Rattle.std.proofs.Common.{ℕ, get_or, sym, subst, inl, inr, arith}
use Rattle.std.proofs.lemmas.Bool.{cases_eq}
use Rattle.std.proofs.lemmas.List.Elements.{Contains-get_or}
use Rattle.gate_circuits.specs.Circuit.{IsOn, Implies}
use Rattle.gate_circuits.proofs.Turns.{one_from, sum_refuted, sum_implies}
use Rattle.gate_circuits.proofs.knowledge.Knowledge.sum_row.Goals as goal

pub inputs-preserved : goal.inputs-preserved
inputs-preserved c =
    let gates = c.args.self.now in
    let inputs = c.args.inputs.now in
    let n = c.inputs.input-index in
    record {
      known = λ b h k low. elim (cases_eq k n) [
        | inl same ↦ subst (λ (m : ℕ). Implies gates (get_or inputs m 0) b) (sym same) (c.keep_row.ensures b h).1
        | inr ne ↦ c.inputs.invariant.known b (c.keep_row.ensures b h).0 k (omega arith)
      ];
      off = λ b h. elim (c.add_refuted.ensures gates c.requires.refuted b h) [
        | inl was ↦ c.inputs.invariant.off b was
        | inr refuted ↦ sum_refuted gates c.args.gate inputs c.requires.sum (get_or inputs n 0) (Contains-get_or inputs n 0 c.inputs-test.true) b refuted
      ];
    }

pub returns : goal.returns
returns c = record {
  known = λ b h. elim (one_from c.inputs.known c.add.new.self c.args.gate c.add.ensures.others b h) [
    | inl was ↦ sum_implies c.args.self.now c.args.gate c.args.inputs.now c.requires.sum c.inputs.known c.inputs.input-index c.inputs-test.false c.inputs.invariant.known b was
    | inr same ↦ λ leaves on. subst (λ (m : ℕ). IsOn c.args.self.now leaves m) (sym same) on
  ];
  refuted = c.inputs.invariant.off;
}
