use Rattle.std.proofs.Common.{ℕ, ◌/◌, ◌<◌, length, sym, ap, subst, ◌∙◌, inl, inr, arith}
use Rattle.std.specs.Prelude.{IsTrue}
use Rattle.std.proofs.lemmas.Bool.{cases_eq}
use Rattle.gate_circuits.specs.inner.Marks.{has}
use Rattle.gate_circuits.proofs.Words.{word_of}
use Rattle.gate_circuits.proofs.marks.Marks.add_if.Goals as goal

pub returns-then-wanted-clause-kept : goal.returns-then-wanted-clause-kept
returns-then-wanted-clause-kept c x h = elim (cases_eq x c.args.number) [
  | inl same ↦
      let low = word_of c.args.self.now x h in
      let fits : c.args.number / 64 < length c.args.self.now = omega (arith, ap (λ (n : ℕ). n / 64) same) in
      subst (λ (n : ℕ). IsTrue (has c.add.new.self n)) (sym same) (c.add.ensures.here fits)
  | inr ne ↦ c.add.ensures.others x ne ∙ h
]
