use Rattle.std.proofs.Common.{[], ◌∷◌, ap, sym, ◌∙◌}
use Rattle.std.proofs.lemmas.Result.{IfOk-weaker}
use Rattle.event_why.specs.inner.Drafted.{there}
use Rattle.event_why.proofs.GroupLemmas.{event_merge_both, event_merge_first}
use Rattle.event_why.proofs.grounded.by_merge.Goals as goal

pub returns-then-has_event_at : goal.returns-then-has_event_at
returns-then-has_event_at c =
    IfOk-weaker c.numbers_of.result _ _
    (λ by is i op_is.
    event_merge_first c.args.draft.now c.args.e.now i by.items (sym c.has_event_at.ensures ∙ c.if-has_event_at.true)
    (is ∙ ap (λ x. there (x ∷ [])) c.number_of.ensures) op_is)
    c.numbers_of.ensures

pub returns-else-has_event_at : goal.returns-else-has_event_at
returns-else-has_event_at c =
    IfOk-weaker c.by_all.result _ _
    (λ by is i op_is. event_merge_both c.args.draft.now c.args.e.now i by.items (sym c.has_event_at.ensures ∙ c.if-has_event_at.false) is op_is)
    c.by_all.ensures
