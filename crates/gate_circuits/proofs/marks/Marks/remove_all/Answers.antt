use Rattle.std.proofs.Common.{◌≡◌, ℕ, List, sym, subst, ◌∙◌}
use Rattle.std.specs.Prelude.{IsTrue, IsFalse}
use Rattle.std.proofs.lemmas.List.{with_items_is}
use Rattle.gate_circuits.specs.inner.Marks.{has}
use Rattle.gate_circuits.proofs.marks.Marks.remove_all.Goals as goal

pub returns-clause-kept : goal.returns-clause-kept
returns-clause-kept c x =
    let new = c.subtract.new.words in
    let same = with_items_is c.self.inside.words new (c.subtract.auto.words ∙ c.deref_mut.ensures.len) in
    let old : c.deref_mut.result.now ≡ c.args.self.now = c.deref_mut.ensures.value ∙ c.self.view_is in
    subst (λ (l : List ℕ). IsTrue (has l x) → IsTrue (has c.args.self.now x)) (sym same)
    (subst (λ (l : List ℕ). IsTrue (has new x) → IsTrue (has l x)) old (λ h. (c.subtract.ensures x h).0))

pub returns-clause-removed : goal.returns-clause-removed
returns-clause-removed c x =
    let new = c.subtract.new.words in
    let same = with_items_is c.self.inside.words new (c.subtract.auto.words ∙ c.deref_mut.ensures.len) in
    let others : c.deref.result.now ≡ c.args.other.now = c.deref.ensures.value ∙ c.other.view_is in
    subst (λ (l : List ℕ). IsTrue (has l x) → IsFalse (has c.args.other.now x)) (sym same)
    (subst (λ (l : List ℕ). IsTrue (has new x) → IsFalse (has l x)) others (λ h. (c.subtract.ensures x h).1))
