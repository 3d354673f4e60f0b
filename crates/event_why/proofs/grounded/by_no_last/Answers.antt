use Rattle.std.proofs.Common.{rules, ◌≡◌, ◌<◌, [], ◌∷◌, ap, sym, ◌∙◌}
use Rattle.std.proofs.lemmas.Result.{IfOk-weaker}
use Rattle.event_why.specs.inner.Drafted.{there}
use Rattle.event_why.proofs.LookLemmas.{silence_asked_by, silence_not_asked_by, silence_zero_by}
use Rattle.event_why.proofs.grounded.by_no_last.Goals as goal

pub returns-then-get-eq0 : goal.returns-then-get-eq0
returns-then-get-eq0 c i op_is =
    let zero : c.args.t ≡ 0 = search rules in
    silence_zero_by c.args.draft.now c.args.e.now i c.new.result.items c.args.t zero c.new.ensures.items op_is

pub returns-then-has_event_at : goal.returns-then-has_event_at
returns-then-has_event_at c =
    let late : 0 < c.args.t = search rules in
    IfOk-weaker c.numbers_of.result _ _
    (λ by is i op_is.
    silence_asked_by c.args.draft.now c.args.e.now i by.items c.args.t late (sym c.has_event_at.ensures ∙ c.if-has_event_at.true)
    (is ∙ ap (λ x. there (x ∷ [])) c.number_of.ensures) op_is)
    c.numbers_of.ensures

pub returns-else-has_event_at : goal.returns-else-has_event_at
returns-else-has_event_at c =
    IfOk-weaker c.numbers_of-else-has_event_at.result _ _
    (λ by is i op_is.
    silence_not_asked_by c.args.draft.now c.args.e.now i by.items c.args.t (sym c.has_event_at.ensures ∙ c.if-has_event_at.false)
    (is ∙ ap (λ x. there (x ∷ [])) c.number_of-else-has_event_at.ensures) op_is)
    c.numbers_of-else-has_event_at.ensures
