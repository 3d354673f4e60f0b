use Rattle.std.proofs.Common.{◌<◌, ◌^◌, inl, inr, map, refl, subst, sym, ◌∙◌}
use Rattle.std.proofs.lemmas.Bool.{false≢true}
use Rattle.event_why.specs.Said.{said}
use Rattle.event_why.proofs.PendingLemmas.{keeps_so, kept_so}
use Rattle.event_why.proofs.pending.keeps.Goals as goal

pub returns-then-is_set_to : goal.returns-then-is_set_to
returns-then-is_set_to c p e =
    let k = kept_so p c.args.delay.now e c.args.t c.args.due.now (map said c.args.named.now) (inl (c.is_set_to.ensures.0 c.if-is_set_to.true)) in
    (λ is. k, λ kept. refl)

pub returns-then-is_cancelled : goal.returns-then-is_cancelled
returns-then-is_cancelled c p e =
    let k = kept_so p c.args.delay.now e c.args.t c.args.due.now (map said c.args.named.now) (inr (inl (c.is_cancelled.ensures.0 c.if-is_cancelled.true))) in
    (λ is. k, λ kept. refl)

pub returns-then-is_never_set : goal.returns-then-is_never_set
returns-then-is_never_set c p e =
    let k = kept_so p c.args.delay.now e c.args.t c.args.due.now (map said c.args.named.now) (inr (inr (inl (c.is_never_set.ensures.0 c.if-is_never_set.true)))) in
    (λ is. k, λ kept. refl)

pub returns-then-is_kept_on : goal.returns-then-is_kept_on
returns-then-is_kept_on c p e =
    let k = kept_so p c.args.delay.now e c.args.t c.args.due.now (map said c.args.named.now) (inr (inr (inr (inl (c.is_kept_on.ensures.0 c.if-is_kept_on.true))))) in
    (λ is. k, λ kept. refl)

pub returns : goal.returns
returns c p e =
    let below : c.args.t < 2 ^ 63 = subst (λ n. n < 2 ^ 63) c.get.ensures.value c.get.ensures.bounded in
    let fs = map said c.args.named.now in (
      λ is. kept_so p c.args.delay.now e c.args.t c.args.due.now fs (inr (inr (inr (inr (c.is_over_gap.ensures.0 is))))),
      λ kept. elim (keeps_so p c.args.delay.now e c.args.t c.args.due.now fs below kept) [
        | inl r ↦ absurd (false≢true (sym c.if-is_set_to.false ∙ c.is_set_to.ensures.1 r))
        | inr (inl r) ↦ absurd (false≢true (sym c.if-is_cancelled.false ∙ c.is_cancelled.ensures.1 r))
        | inr (inr (inl r)) ↦ absurd (false≢true (sym c.if-is_never_set.false ∙ c.is_never_set.ensures.1 r))
        | inr (inr (inr (inl r))) ↦ absurd (false≢true (sym c.if-is_kept_on.false ∙ c.is_kept_on.ensures.1 r))
        | inr (inr (inr (inr r))) ↦ c.is_over_gap.ensures.1 r
      ],
    )
