use Rattle.std.proofs.Common.{rules}
use Rattle.std.proofs.lemmas.Result.{IfOk-weaker}
use Rattle.std.specs.Prelude.{IsTrue}
use Rattle.event_why.proofs.GroundLemmas.{is_alone, is_seen}
use Rattle.event_why.proofs.GroupLemmas.{computes_other, event_alone_by, event_computed_by, event_seen_by}
use Rattle.event_why.proofs.LookLemmas.{event_due_by}
use Rattle.event_why.proofs.grounded.event_by.Goals as goal

pub returns-in-Delay : goal.returns-in-Delay
returns-in-Delay c = IfOk-weaker c.by_due.result _ _ (λ by is. event_due_by c.args.draft.now c.args.e.now c.args.i by.items is c.in-Delay.is) c.by_due.ensures

pub returns-in_default : goal.returns-in_default
returns-in_default c =
    let o = c.in_default in
    let computes = computes_other c.args.e.now.op o.not-Input o.not-Nil o.not-Unit o.not-Any o.not-Time o.not-Last o.not-Delay o.not-Merge o.not-Empty in
    IfOk-weaker c.by_all.result _ _ (λ by is. event_computed_by c.args.draft.now c.args.e.now c.args.i by.items computes is) c.by_all.ensures

pub returns-in-Time : goal.returns-in-Time
returns-in-Time c =
    let seen : IsTrue (is_seen c.args.e.now.op) = search rules in
    IfOk-weaker c.by_first.result _ _ (λ by is. event_seen_by c.args.draft.now c.args.e.now c.args.i by.items seen is) c.by_first.ensures

pub returns-in-Input : goal.returns-in-Input
returns-in-Input c =
    let alone : IsTrue (is_alone c.args.e.now.op) = search rules in
    event_alone_by c.args.draft.now c.args.e.now c.args.i c.new.result.items alone c.new.ensures.items
