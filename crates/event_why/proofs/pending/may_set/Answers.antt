use Rattle.std.proofs.Common.{sym, inl, inr, ◌∙◌}
use Rattle.std.proofs.lemmas.Bool.{false≢true}
use Rattle.event_why.specs.Said.{said}
use Rattle.event_why.proofs.TellLemmas.{event_is, event_there}
use Rattle.event_why.proofs.pending.may_set.Goals as goal

pub returns-then-is_event_of : goal.returns-then-is_event_of
returns-then-is_event_of c =
    let f = said c.args.fact.now in
    let found = event_there c.args.delay.now.reset c.args.t f (sym c.is_event_of.ensures ∙ c.if-is_event_of.true) in
    (λ is. (found.0, inl found.1), λ may. c.if-is_event_of.true)

pub returns-else-is_event_of : goal.returns-else-is_event_of
returns-else-is_event_of c =
    let f = said c.args.fact.now in
    let r = c.args.delay.now.reset in
    let i = c.args.delay.now.itself in (
      λ is. let found = event_there i c.args.t f (sym c.is_event_of-else-is_event_of.ensures ∙ is) in (found.0, inr found.1),
      λ may. elim may.1 [
        | inl first ↦ absurd (false≢true (sym c.if-is_event_of.false ∙ c.is_event_of.ensures ∙ event_is r c.args.t f may.0 first))
        | inr second ↦ c.is_event_of-else-is_event_of.ensures ∙ event_is i c.args.t f may.0 second
      ],
    )
