use Rattle.std.proofs.Common.{◌≡◌, ◌-◌, length, sym, subst, ◌∙◌, arith}
use Rattle.std.proofs.lemmas.Bool.{true≢false, eq-eqb}
use Rattle.alias_nears.specs.inner.Nears.{AreShared}
use Rattle.alias_nears.proofs.begins.sharers_of.Goals as goal

pub sharers_after-requires-clause-earlier : goal.sharers_after-requires-clause-earlier
sharers_after-requires-clause-earlier c =
    let n = length c.args.before.now in
    let some : n ≡ 0 → ⊥ = λ none. true≢false (sym (eq-eqb n 0 none) ∙ sym c.is_empty.ensures ∙ c.if-is_empty.false) in
    let earlier = c.index-before-before.result in
    subst (AreShared c.args.flat.now c.args.set.now) (sym c.index-before-before.is) (c.requires.before (n - 1) earlier (omega (arith, some)))
