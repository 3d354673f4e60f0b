use Rattle.std.proofs.Common.{inl, inr, map, refl, subst, sym, ◌∙◌}
use Rattle.std.proofs.lemmas.Bool.{false≢true}
use Rattle.std.specs.Prelude.{IsTrue}
use Rattle.why_rules.specs.Rules.{misses}
use Rattle.event_why.specs.Said.{said}
use Rattle.event_why.specs.inner.Silence.{IsMissing}
use Rattle.event_why.proofs.ListedFacts.{filter_two, second_is}
use Rattle.event_why.proofs.SilentLemmas.{filter_test, missing_lacks}
use Rattle.event_why.proofs.silent.is_filtered.Goals as goal

pub returns-then-is_missing : goal.returns-then-is_missing
returns-then-is_missing c p i =
    let e = c.args.e.now in
    let fs = map said c.args.named.now in
    let missing = subst (λ xs. IsMissing xs c.args.t fs) c.ids-ids.ensures (c.is_missing.ensures.0 c.if-is_missing.true) in
    let found = missing_lacks p i e c.args.t fs (subst (λ o. IsTrue (misses o)) (sym c.requires.filter) refl) missing in
    (λ is. found, λ lacks. c.if-is_missing.true)

pub returns-else-is_missing : goal.returns-else-is_missing
returns-else-is_missing c p i =
    let e = c.args.e.now in
    let fs = map said c.args.named.now in
    let b = c.index-ids-1.result in
    let args = second_is e.args c.ids-ids.result.now b (filter_two e.op e.args c.requires.filter c.requires.shape) c.ids-ids.ensures c.index-ids-1.is in
    let test = filter_test p i e c.args.t args.0 b fs c.requires.filter args.1 in (
      λ is. test.0 (inr (c.is_not_true.ensures.0 is)),
      λ lacks. elim (test.1 lacks) [
        | inl missing ↦
            absurd (false≢true (sym c.if-is_missing.false ∙ c.is_missing.ensures.1 (subst (λ xs. IsMissing xs c.args.t fs) (sym (c.ids-ids.ensures ∙ args.1)) missing)))
        | inr other ↦ c.is_not_true.ensures.1 other
      ],
    )
