use Rattle.std.proofs.Common.{◌≡◌, ℕ, List, sym, subst, ◌∙◌}
use Rattle.std.proofs.lemmas.List.{with_items_is}
use Rattle.gate_circuits.specs.inner.Marks.{AreKeptIn}
use Rattle.gate_circuits.proofs.marks.Marks.keep_either.Goals as goal

pub returns : goal.returns
returns c =
    let new = c.meet_either.new.words in
    let same = with_items_is c.self.inside.words new (c.meet_either.auto.words ∙ c.deref_mut.ensures.len) in
    let old : c.deref_mut.result.now ≡ c.args.self.now = c.deref_mut.ensures.value ∙ c.self.view_is in
    let first : c.deref.result.now ≡ c.args.first.now = c.deref.ensures.value ∙ c.first.view_is in
    let second : c.deref-2.result.now ≡ c.args.second.now = c.deref-2.ensures.value ∙ c.second.view_is in
    subst (λ (l : List ℕ). AreKeptIn c.args.self.now c.args.first.now c.args.second.now l) (sym same)
    (subst (λ (l : List ℕ). AreKeptIn l c.args.first.now c.args.second.now new) old
    (subst (λ (l : List ℕ). AreKeptIn c.deref_mut.result.now l c.args.second.now new) first
    (subst (λ (l : List ℕ). AreKeptIn c.deref_mut.result.now c.deref.result.now l new) second c.meet_either.ensures)))
