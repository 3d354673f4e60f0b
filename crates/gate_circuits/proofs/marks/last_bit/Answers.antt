use Rattle.std.proofs.Common.{◌≡◌, ℕ, ◌-◌, ◌/◌, get_or, sym, ap, ◌∙◌, inl, inr, arith}
use Rattle.std.proofs.lemmas.Bool.{cases_eq, cases_lt}
use Rattle.gate_circuits.specs.inner.Marks.{has}
use Rattle.gate_circuits.proofs.Words.{zero_word}
use Rattle.gate_circuits.proofs.marks.last_bit.Goals as goal

pub loop-upto-preserved-then-word-eq0 : goal.loop-upto-preserved-then-word-eq0
loop-upto-preserved-then-word-eq0 c = record {
  low = let before = c.loop-upto.invariant.low in omega arith;
  none = λ x above low. elim (cases_lt x c.loop-upto.upto) [
    | inl less ↦
        let same : x / 64 ≡ (c.loop-upto.upto - 1) / 64 = omega arith in
        zero_word c.args.words.now x (ap (λ (k : ℕ). get_or c.args.words.now k 0) same ∙ sym c.word.ensures ∙ c.if-word-eq0.true)
    | inr more ↦ c.loop-upto.invariant.none x more low
  ];
}

pub loop-upto-preserved : goal.loop-upto-preserved
loop-upto-preserved c = record {
  low = let before = c.loop-upto.invariant.low in omega arith;
  none = λ x above low. elim (cases_eq x (c.loop-upto.upto - 1)) [
    | inl same ↦ ap (has c.args.words.now) same ∙ sym c.has_bit.ensures ∙ c.if-has_bit.false
    | inr ne ↦ c.loop-upto.invariant.none x (omega arith) low
  ];
}
