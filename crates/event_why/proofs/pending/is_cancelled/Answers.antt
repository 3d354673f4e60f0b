use Rattle.std.proofs.Common.{rules, ◌≡◌, ◌∷◌, [], map, sym, ◌∙◌}
use Rattle.std.proofs.lemmas.Bool.{false≢true}
use Rattle.event_why.specs.Said.{said}
use Rattle.event_why.proofs.Iff.{through}
use Rattle.event_why.proofs.ListedFacts.{two_is}
use Rattle.event_why.proofs.TellLemmas.{silent_from}
use Rattle.event_why.proofs.PendingLemmas.{cancelled_test}
use Rattle.event_why.proofs.pending.is_cancelled.Goals.{then-is_none, else-is_none}
use Rattle.event_why.proofs.pending.is_cancelled.Goals as goal

pub returns-then-is_silent_at : goal.returns-then-is_silent_at
returns-then-is_silent_at c =
    let fs = map said c.args.named.now in
    let f = said c.in-Some.amount.now in
    let g = said c.in-Some.reset.now in
    let pair : fs ≡ f ∷ g ∷ [] = two_is fs f g (search rules) in
    elim c.if-is_none.branch [
      | then-is_none w ↦
          through c.may_set.ensures
          (cancelled_test c.args.delay.now c.args.t c.args.due.now fs f g pair (c.is_none.ensures.0 w.if-is_none.true)
          (silent_from c.args.delay.now.amount c.args.t f (sym w.is_silent_at.ensures ∙ sym w.value-is ∙ c.if-is_silent_at.true)))
      | else-is_none w ↦ absurd (false≢true (sym w.if-is_none.false ∙ sym w.value-is ∙ c.if-is_silent_at.true))
    ]
