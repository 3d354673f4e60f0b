use Rattle.std.proofs.Common.{rules, ◌≡◌, ◌∷◌, [], ap, map, ◌∙◌}
use Rattle.why_rules.specs.Facts.{Gap}
use Rattle.event_why.specs.Said.{said}
use Rattle.event_why.proofs.Iff.{through}
use Rattle.event_why.proofs.ListedFacts.{two_is}
use Rattle.event_why.proofs.PendingLemmas.{over_gap_test}
use Rattle.event_why.proofs.pending.is_over_gap.Goals as goal

pub returns-in-Gap : goal.returns-in-Gap
returns-in-Gap c =
    let fs = map said c.args.named.now in
    let f = said c.in-Some.gap.now in
    let g = said c.in-Some.pending.now in
    let pair : fs ≡ f ∷ g ∷ [] = two_is fs f g (search rules) in
    let all : fs ≡ Gap c.in-Gap.from c.in-Gap.to ∷ g ∷ [] = pair ∙ ap (λ x. said x ∷ g ∷ []) c.in-Gap.is in
    through c.is_over.ensures (over_gap_test c.args.delay.now c.args.t c.args.due.now fs c.in-Gap.from c.in-Gap.to g all)
