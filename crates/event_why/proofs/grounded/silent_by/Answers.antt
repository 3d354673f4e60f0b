use Rattle.std.proofs.Common.{rules, ap, inl, inr, not, ◌∙◌}
use Rattle.std.proofs.lemmas.Bool.{cases_Bool}
use Rattle.std.proofs.lemmas.Result.{IfOk-weaker}
use Rattle.std.specs.Prelude.{IsTrue}
use Rattle.why_rules.specs.Rules.{joins}
use Rattle.event_why.specs.inner.Silence.{misses_only}
use Rattle.event_why.proofs.GroundLemmas.{is_alone}
use Rattle.event_why.proofs.GroupLemmas.{misses_other, silence_alone_by, silence_joined_by, silence_missing_by}
use Rattle.event_why.proofs.LookLemmas.{silence_due_by}
use Rattle.event_why.proofs.grounded.silent_by.Goals as goal

pub returns-in-Delay : goal.returns-in-Delay
returns-in-Delay c = IfOk-weaker c.by_due.result _ _ (λ by is. silence_due_by c.args.draft.now c.args.e.now c.args.i by.items c.args.t is c.in-Delay.is) c.by_due.ensures

pub returns-in-Lift : goal.returns-in-Lift
returns-in-Lift c = elim (cases_Bool c.in-Lift.strict) [
  | inl strict ↦
      IfOk-weaker c.by_lift.result _ _
      (λ by is. silence_missing_by c.args.draft.now c.args.e.now c.args.i by.items c.args.t (ap misses_only c.in-Lift.is ∙ strict) (is strict))
      c.by_lift.ensures.strict
  | inr lax ↦
      IfOk-weaker c.by_lift.result _ _
      (λ by is. silence_joined_by c.args.draft.now c.args.e.now c.args.i by.items c.args.t (ap joins c.in-Lift.is ∙ ap not lax) (is lax))
      c.by_lift.ensures.all
]

pub returns-in_default : goal.returns-in_default
returns-in_default c =
    let o = c.in_default in
    let misses = misses_other c.args.e.now.op o.not-Input o.not-Nil o.not-Unit o.not-Any o.not-Last o.not-Delay o.not-Merge o.not-Filter o.not-Empty o.not-Lift in
    IfOk-weaker c.by_first.result _ _ (λ by is. silence_missing_by c.args.draft.now c.args.e.now c.args.i by.items c.args.t misses is) c.by_first.ensures

pub returns-in-Any : goal.returns-in-Any
returns-in-Any c =
    let joined : IsTrue (joins c.args.e.now.op) = search rules in
    IfOk-weaker c.by_all.result _ _ (λ by is. silence_joined_by c.args.draft.now c.args.e.now c.args.i by.items c.args.t joined is) c.by_all.ensures

pub returns-in-Input : goal.returns-in-Input
returns-in-Input c =
    let alone : IsTrue (is_alone c.args.e.now.op) = search rules in
    silence_alone_by c.args.draft.now c.args.e.now c.args.i c.new.result.items c.args.t alone c.new.ensures.items
