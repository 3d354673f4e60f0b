use Rattle.std.proofs.Common.{◌≡◌, ℕ, ◌⊎◌, List, sym, subst, ◌∙◌}
use Rattle.std.specs.Prelude.{IsTrue}
use Rattle.std.proofs.lemmas.List.{with_items_is}
use Rattle.gate_circuits.specs.inner.Marks.{has}
use Rattle.gate_circuits.proofs.marks.Marks.add_all.Goals as goal

pub returns-clause-from : goal.returns-clause-from
returns-clause-from c x =
    let new = c.join.new.words in
    let same = with_items_is c.self.inside.words new (c.join.auto.words ∙ c.deref_mut.ensures.len) in
    let old : c.deref_mut.result.now ≡ c.args.self.now = c.deref_mut.ensures.value ∙ c.self.view_is in
    let others : c.deref.result.now ≡ c.args.other.now = c.deref.ensures.value ∙ c.other.view_is in
    subst (λ (l : List ℕ). IsTrue (has l x) → IsTrue (has c.args.self.now x) ⊎ IsTrue (has c.args.other.now x)) (sym same)
    (subst (λ (l : List ℕ). IsTrue (has new x) → IsTrue (has l x) ⊎ IsTrue (has c.args.other.now x)) old
    (subst (λ (l : List ℕ). IsTrue (has new x) → IsTrue (has c.deref_mut.result.now x) ⊎ IsTrue (has l x)) others (c.join.ensures x)))
