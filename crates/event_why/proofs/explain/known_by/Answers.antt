use Rattle.event_why.proofs.AcceptedLemmas.{known_none, known_why}
use Rattle.event_why.proofs.explain.known_by.Goals as goal

pub returns-in_ok-grounds_of-in-Some : goal.returns-in_ok-grounds_of-in-Some
returns-in_ok-grounds_of-in-Some c story p z told run =
    known_why story p z c.args.time c.args.i c.args.until c.args.draft told run c.in-Some.number (c.in-Some.ensures story p z told run)
    (record { steps = c.in_ok-grounds_of-in-Some.field-0 }) c.in_ok-grounds_of-in-Some.ensures

pub returns-in-None : goal.returns-in-None
returns-in-None c story p z told run = known_none story p z c.args.time c.args.i c.args.until c.args.draft told run (c.in-None.ensures story p z told run)
