use Rattle.std.proofs.Common.{◌≡◌, suc, sym, ◌∙◌, arith}
use Rattle.event_why.proofs.AcceptedLemmas.{no_event_after, no_event_here, number_of_event}
use Rattle.event_why.proofs.explain.event_number.Goals as goal
use Rattle.event_why.proofs.explain.event_number.Goals.{else-until-get-via-then-until-get+else-has_event, else-until-get-via-else-until-get}

pub returns-then-has_event : goal.returns-then-has_event
returns-then-has_event c story p z told run =
    let value = c.get.ensures.value in
    let until = c.if-until-get.true in
    let is : c.args.until ≡ suc c.args.time = omega (arith, value, until) in
    number_of_event story p z c.args.time c.args.i c.args.until c.args.draft.now told run is (sym c.has_event.ensures ∙ c.if-has_event.true) c.get-then-has_event.result c.get-then-has_event.ensures

pub returns-else-until-get : goal.returns-else-until-get
returns-else-until-get c story p z told run =
    let value = c.get.ensures.value in
    elim c.else-until-get.branch [
      | else-until-get-via-then-until-get+else-has_event w ↦
          let until = w.if-until-get.true in
          let is : c.args.until ≡ suc c.args.time = omega (arith, value, until) in
          no_event_here story p z c.args.time c.args.i c.args.until c.args.draft.now told run is (sym w.has_event.ensures ∙ w.if-has_event.false)
      | else-until-get-via-else-until-get w ↦
          let other = w.if-until-get.false in
          no_event_after story p z c.args.time c.args.i c.args.until c.args.draft.now told run (λ is. omega (arith, value, is, other))
    ]
