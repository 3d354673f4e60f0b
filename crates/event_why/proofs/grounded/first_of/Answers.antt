use Rattle.std.proofs.Common.{rules, ◌≡◌, ℕ, not, sym, ◌∙◌}
use Rattle.event_why.specs.inner.Drafted.{happens_now}
use Rattle.event_why.proofs.GroupLemmas.{all_end, all_more, not_same}
use Rattle.event_why.proofs.grounded.first_of.Goals as goal

pub loop-id-preserved : goal.loop-id-preserved
loop-id-preserved c =
    let P : ℕ → Type 0 = λ a. happens_now c.args.draft.now a ≡ not c.args.has_event in
    all_more P c.args.e.now.args c.loop-id.id-index c.id-item.result (search rules) (search rules)
    (sym c.has_event.ensures ∙ not_same c.has_event.result c.args.has_event c.if-has_event.false) c.loop-id.invariant

pub returns : goal.returns
returns c = all_end (λ a. happens_now c.args.draft.now a ≡ not c.args.has_event) c.args.e.now.args c.loop-id.id-index (search rules) c.loop-id.invariant
