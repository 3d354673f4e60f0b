use Rattle.std.proofs.Common.{rules, ◌≡◌, false, true, sym, ◌∙◌}
use Rattle.flat_core.specs.System.{runs}
use Rattle.event_why.specs.inner.Tale.{always, tale_of}
use Rattle.event_why.proofs.DraftLemmas.{ok_then}
use Rattle.event_why.proofs.RunLemmas.{past_skip}
use Rattle.event_why.proofs.instants.settle_kept.Goals as goal

pub returns-then-not-is_kept : goal.returns-then-not-is_kept
returns-then-not-is_kept c p z bound t story early at =
    let no : c.is_kept.result ≡ false = search rules in
    past_skip (tale_of c.args.story.now p z bound) story (always t) (always t) t (runs c.args.story.now.flat.now) _ t c.args.draft.now c.args.i (sym c.is_kept.ensures ∙ no) at

pub returns : goal.returns
returns c =
    let yes : c.is_kept.result ≡ true = search rules in
    ok_then c.settle_one.result c.settle_one.ensures
    (λ _ settles p z bound t story early at. settles (tale_of c.args.story.now p z bound) t story early (sym c.is_kept.ensures ∙ yes) at)
