use Rattle.std.proofs.Common.{ℕ, ◌/◌, ◌<◌, length, sym, subst, ◌∙◌, inl, inr, arith}
use Rattle.std.specs.Prelude.{IsTrue}
use Rattle.std.proofs.lemmas.Bool.{cases_eq}
use Rattle.gate_circuits.specs.inner.Marks.{has}
use Rattle.gate_circuits.proofs.knowledge.all_gates.Goals as goal

pub loop-number-preserved : goal.loop-number-preserved
loop-number-preserved c =
    let number = c.loop-number.number in
    let fits : number / 64 < length c.loop-number.all = omega (arith, c.loop-number.invariant.room, c.loop-number-test.true) in
    record {
      room = c.add.ensures.room ∙ c.loop-number.invariant.room;
      there = λ x low. elim (cases_eq x number) [
        | inl same ↦ subst (λ (n : ℕ). IsTrue (has c.add.new.self n)) (sym same) (c.add.ensures.here fits)
        | inr ne ↦ c.add.ensures.others x ne ∙ c.loop-number.invariant.there x (omega arith)
      ];
    }
