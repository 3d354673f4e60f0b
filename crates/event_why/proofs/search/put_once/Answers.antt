use Rattle.std.proofs.Common.{rules, ◌≡◌, ◌++◌, ◌∷◌, [], Contains, ap, inl, inr, map, refl, subst, sym, ◌∙◌}
use Rattle.std.proofs.lemmas.Bool.{false≢true}
use Rattle.std.proofs.lemmas.List.{map_push}
use Rattle.event_why.specs.Said.{said}
use Rattle.event_why.proofs.search.put_once.Goals as goal

pub returns-then-is_among : goal.returns-then-is_among
returns-then-is_among c = inl (subst (λ xs. Contains (map said xs) (said c.args.fact.now)) c.deref.ensures.value (c.is_among.ensures.0 c.if-is_among.true), refl)

pub returns : goal.returns
returns c =
    let old = c.args.once.now.items in
    let pushed : c.push.new.self.items ≡ old ++ c.in_ok-copy.copy ∷ [] = search rules in
    inr (
      λ is. false≢true (sym c.if-is_among.false ∙ c.is_among.ensures.1 (subst (λ xs. Contains (map said xs) (said c.args.fact.now)) (sym c.deref.ensures.value) is)),
      ap (map said) pushed ∙ map_push said old c.in_ok-copy.copy ∙ ap (λ g. map said old ++ g ∷ []) c.in_ok-copy.ensures,
    )
