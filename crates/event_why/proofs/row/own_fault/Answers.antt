use Rattle.std.proofs.Common.{refl, sym, ◌∙◌}
use Rattle.flat_core.specs.Events.{at_once}
use Rattle.event_why.specs.inner.Here.{events_in}
use Rattle.event_why.proofs.DraftLemmas.{ok_then}
use Rattle.event_why.proofs.RowLemmas.{root_blocked, root_free, root_made}
use Rattle.event_why.proofs.row.own_fault.Goals as goal
use Rattle.event_why.proofs.row.own_fault.Goals.{then-not-is_fault_in-via-then-not-is_fault_in, then-not-is_fault_in-via-else-not-is_fault_in+then-is_blocked_in}

pub returns-then-not-is_fault_in : goal.returns-then-not-is_fault_in
returns-then-not-is_fault_in c T h = elim c.then-not-is_fault_in.branch [
  | then-not-is_fault_in-via-then-not-is_fault_in w ↦ root_free T c.args.t c.args.i c.args.e.now c.args.row.now h (sym c.is_fault_in.ensures ∙ w.if-not-is_fault_in.true)
  | then-not-is_fault_in-via-else-not-is_fault_in+then-is_blocked_in w ↦ root_blocked T c.args.t c.args.i c.args.e.now c.args.row.now h (sym w.is_blocked_in.ensures ∙ w.if-is_blocked_in.true)
]

pub returns : goal.returns
returns c =
    ok_then c.fault_in.result c.fault_in.ensures
    (λ kind is T h.
    root_made T c.args.t c.args.i c.args.e.now c.args.row.now h (sym c.is_blocked_in.ensures ∙ c.if-is_blocked_in.false)
    (at_once c.args.e.now.op c.args.e.now.of (events_in c.args.row.now c.args.e.now.args) c.args.t) refl
    ∙ sym (is (at_once c.args.e.now.op c.args.e.now.of (events_in c.args.row.now c.args.e.now.args) c.args.t) c.made_in-answer.ensures))
