use Rattle.std.proofs.Common.{refl, suc, ap, ◌∙◌}
use Rattle.event_why.specs.declared.fact.Fact.TheVariants as fact
use Rattle.event_why.specs.inner.Drafted.{there}
use Rattle.event_why.specs.inner.Tale.{always, tale_of}
use Rattle.event_why.proofs.CalmLemmas.{gap_past, gap_told}
use Rattle.event_why.proofs.DraftLemmas.{ok_then}
use Rattle.event_why.proofs.instants.put_gap.Goals as goal

pub returns : goal.returns
returns c =
    ok_then c.put_all_quiet.result c.put_all_quiet.ensures
    (λ _ quiet p z bound story positive le low calm at.
    let T = tale_of c.args.story.now p z bound in
    let old = c.args.draft.now in
    let mid = c.put.new.self in
    let told = gap_told T story c.args.from c.args.to positive le low calm old mid (record { fact = fact.Gap c.args.from c.args.to; by = c.in_ok-by.by }) c.in_ok-gap.gap at refl (c.in_ok-by.ensures ∙ ap there c.deref.ensures.value) c.in_ok-gap.ensures in
    quiet p z bound (always (suc c.args.to)) story le low calm (c.in_ok-put_all_over.ensures.still c.in_ok-gap.gap _ told.here)
    (gap_past T story c.args.from c.args.to positive le low calm old mid c.put_all_over.new.draft c.in_ok-gap.gap told c.in_ok-put_all_over.ensures.over at))
