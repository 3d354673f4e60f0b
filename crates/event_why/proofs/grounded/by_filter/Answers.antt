use Rattle.std.proofs.Common.{[], ◌∷◌, ap, ◌∙◌}
use Rattle.std.proofs.lemmas.Result.{IfOk-weaker}
use Rattle.event_why.specs.inner.Drafted.{there}
use Rattle.event_why.proofs.GroupLemmas.{silence_filter_first, silence_filter_second}
use Rattle.event_why.proofs.grounded.by_filter.Goals as goal

pub returns-in-Some : goal.returns-in-Some
returns-in-Some c =
    IfOk-weaker c.numbers_of.result _ _
    (λ by is i t op_is.
    silence_filter_first c.args.draft.now c.args.e.now i t by.items c.in-Some.a c.in-Some.ensures.0 c.in-Some.ensures.1
    (is ∙ ap (λ x. there (x ∷ [])) c.get.ensures) op_is)
    c.numbers_of.ensures

pub returns-in-None : goal.returns-in-None
returns-in-None c =
    IfOk-weaker c.numbers_of-in-None.result _ _
    (λ by is i t op_is.
    silence_filter_second c.args.draft.now c.args.e.now i t by.items c.in-None.ensures
    (is ∙ ap (λ x. there (x ∷ [])) c.number_of.ensures) op_is)
    c.numbers_of-in-None.ensures
