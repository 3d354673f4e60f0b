use Rattle.std.proofs.Common.{[], ◌∷◌, ◌∙◌}
use Rattle.std.proofs.lemmas.Result.{IfOk-weaker}
use Rattle.event_why.specs.inner.Drafted.{there}
use Rattle.event_why.proofs.LookLemmas.{event_last_by}
use Rattle.event_why.proofs.grounded.by_last.Goals as goal

pub returns : goal.returns
returns c =
    IfOk-weaker c.numbers_of.result _ _
    (λ by is i op_is.
    event_last_by c.args.draft.now c.args.e.now i by.items
    (is ∙ (λ k. there (c.number_of-asked.ensures k ∷ c.number_of-latest.ensures k ∷ c.number_of-quiet.ensures k ∷ []))) op_is)
    c.numbers_of.ensures
