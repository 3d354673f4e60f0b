use Rattle.std.proofs.Common.{rules, ◌≡◌, ◌-◌, Some, ap, length, slice_get}
use Rattle.std.specs.Prelude.{IsTrue}
use Rattle.event_why.specs.Said.{said}
use Rattle.event_why.proofs.Iff.{through}
use Rattle.event_why.proofs.CheckLemmas.{ends_test}
use Rattle.event_why.proofs.check.ends_in_event.Goals as goal

pub returns-in-Event : goal.returns-in-Event
returns-in-Event c =
    let steps = c.args.steps.now in
    let at : slice_get steps (length steps - 1) ≡ Some c.in-Some.step.now = search rules in
    let same : (IsTrue c.eq.result → c.in-Event.i ≡ c.args.equation) × (c.in-Event.i ≡ c.args.equation → IsTrue c.eq.result) = (search rules, search rules) in
    through same (ends_test steps c.in-Some.step.now c.in-Event.i c.in-Event.time c.args.equation c.in-Event.value at (ap said c.in-Event.is))
