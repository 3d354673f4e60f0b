use Rattle.std.proofs.Common.{[], ◌∷◌, refl, ◌∙◌}
use Rattle.std.proofs.lemmas.Result.{IfOk-weaker}
use Rattle.event_why.specs.declared.fact.Fact.TheVariants as fact
use Rattle.event_why.specs.inner.Drafted.{there}
use Rattle.event_why.proofs.WaitLemmas.{put_as_was}
use Rattle.event_why.proofs.waits.put_kept.Goals as goal

pub returns : goal.returns
returns c =
    IfOk-weaker c.put_due.result _ _
    (λ n put T amount wait no_reset no_event.
    put_as_was T c.args.t c.args.i amount c.args.reset c.args.draft.now wait no_reset no_event c.due-due.result c.due-due.ensures
    c.put_due.new.draft (record { fact = fact.Pending c.args.i c.args.t c.due-due.result; by = c.in_ok-by.by }) n refl
    (c.in_ok-by.ensures ∙ (λ k. there (c.get.ensures k ∷ c.get-2.ensures k ∷ c.get-pending.ensures k ∷ []))) put)
    c.put_due.ensures
