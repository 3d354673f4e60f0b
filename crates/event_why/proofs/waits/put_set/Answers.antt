use Rattle.std.proofs.Common.{[], ◌∷◌, refl, ◌∙◌}
use Rattle.std.proofs.lemmas.Result.{IfOk-weaker}
use Rattle.event_why.specs.declared.fact.Fact.TheVariants as fact
use Rattle.event_why.specs.inner.Drafted.{there}
use Rattle.event_why.proofs.WaitLemmas.{put_by}
use Rattle.event_why.proofs.waits.put_set.Goals as goal

pub returns : goal.returns
returns c =
    IfOk-weaker c.put_due.result _ _
    (λ n put T reset wait setter has.
    put_by T c.args.t c.args.i c.args.amount reset c.args.draft.now wait c.args.setter setter has c.due_from-due.result c.due_from-due.ensures
    c.put_due.new.draft (record { fact = fact.Pending c.args.i c.args.t c.due_from-due.result; by = c.in_ok-by.by }) n refl
    (c.in_ok-by.ensures ∙ (λ k. there (c.get.ensures k ∷ c.get-2.ensures k ∷ []))) put)
    c.put_due.ensures
