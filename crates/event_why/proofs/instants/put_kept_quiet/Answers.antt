use Rattle.std.proofs.Common.{rules, ◌≡◌, false, true, sym, ◌∙◌}
use Rattle.event_why.specs.inner.Tale.{tale_of}
use Rattle.event_why.proofs.DraftLemmas.{ok_then}
use Rattle.event_why.proofs.RunLemmas.{past_skip}
use Rattle.event_why.proofs.instants.put_kept_quiet.Goals as goal

pub returns-then-not-is_kept-clause-over : goal.returns-then-not-is_kept-clause-over
returns-then-not-is_kept-clause-over c p z bound due story le low calm gap at =
    let no : c.is_kept.result ≡ false = search rules in
    past_skip (tale_of c.args.story.now p z bound) story due due 0 (λ i. false) _ c.args.from c.args.draft.now c.args.i (sym c.is_kept.ensures ∙ no) at

pub returns-clause-over : goal.returns-clause-over
returns-clause-over c =
    let yes : c.is_kept.result ≡ true = search rules in
    ok_then c.put_quiet_over.result c.put_quiet_over.ensures.over
    (λ _ over p z bound due story le low calm gap at. over (tale_of c.args.story.now p z bound) due story (sym c.is_kept.ensures ∙ yes) le low calm gap at)
