use Rattle.std.proofs.Common.{◌≡◌, ℕ, List, sym, ap, subst, ◌∙◌}
use Rattle.std.specs.Prelude.{IsTrue}
use Rattle.std.proofs.lemmas.List.{with_items_is}
use Rattle.gate_circuits.specs.inner.Marks.{has}
use Rattle.gate_circuits.proofs.marks.Marks.add.Goals as goal

pub returns-then-number-len-clause-here : goal.returns-then-number-len-clause-here
returns-then-number-len-clause-here c low =
    let same = with_items_is c.self.inside.words c.set_bit.new.words (c.set_bit.auto.words ∙ c.deref_mut.ensures.len) in
    subst (λ (l : List ℕ). IsTrue (has l c.args.number)) (sym same) c.set_bit.ensures.here

pub returns-then-number-len-clause-others : goal.returns-then-number-len-clause-others
returns-then-number-len-clause-others c x ne =
    let same = with_items_is c.self.inside.words c.set_bit.new.words (c.set_bit.auto.words ∙ c.deref_mut.ensures.len) in
    let old : c.deref_mut.result.now ≡ c.args.self.now = c.deref_mut.ensures.value ∙ c.self.view_is in
    ap (λ (l : List ℕ). has l x) same ∙ c.set_bit.ensures.others x ne ∙ ap (λ (l : List ℕ). has l x) old
