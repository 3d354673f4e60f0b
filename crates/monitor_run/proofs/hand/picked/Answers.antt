use Rattle.std.proofs.Common.{sym, ap, ◌∙◌, inl, inr}
use Rattle.std.specs.Prelude.{if◌then◌else◌, is_some}
use Rattle.monitor_run.specs.inner.Here.{truth_of}
use Rattle.monitor_run.specs.inner.Registers.{register_at}
use Rattle.monitor_run.specs.inner.Shown.{held_at, held_by}
use Rattle.monitor_run.proofs.CaseLemmas.{is_blank, is_there, none_picked, picked_is, unsaid}
use Rattle.monitor_run.proofs.hand.picked.Goals as goal
use Rattle.monitor_run.proofs.hand.picked.Goals.{then-is_empty-via-then-is_empty, then-is_empty-via-else-is_empty+then-is_empty-2}

pub returns-then-is_empty-clause-handed : goal.returns-then-is_empty-clause-handed
returns-then-is_empty-clause-handed c =
    let registers = c.args.registers.now in
    none_picked (register_at registers c.args.condition) (register_at registers c.args.a) (register_at registers c.args.b) (elim c.then-is_empty.branch [
      | then-is_empty-via-then-is_empty w ↦
          inl (ap held_by (sym c.register.ensures) ∙ is_blank c.register.result.now c.is_empty.result c.is_empty.ensures w.if-is_empty.true)
      | then-is_empty-via-else-is_empty+then-is_empty-2 w ↦
          inr (ap held_by (sym w.register-else-is_empty.ensures) ∙ is_blank w.register-else-is_empty.result.now w.is_empty-else-is_empty.result w.is_empty-else-is_empty.ensures w.if-is_empty-2.true)
    ])

pub returns-then-is_first-clause-handed : goal.returns-then-is_first-clause-handed
returns-then-is_first-clause-handed c =
    let registers = c.args.registers.now in
    (λ k. if sym c.if-is_first.true k then held_at registers c.args.a else held_at registers c.args.b)
    ∙ picked_is (held_at registers c.args.condition) (register_at registers c.args.a) (register_at registers c.args.b) c.in-Some.is_first
    (ap (λ r. truth_of (held_by r)) (sym c.register-2.ensures) ∙ sym c.truth.ensures ∙ c.in-Some.is)
    (ap (λ r. is_some (held_by r)) (sym c.register.ensures) ∙ is_there c.register.result.now c.is_empty.result c.is_empty.ensures c.if-is_empty.false)
    (ap (λ r. is_some (held_by r)) (sym c.register-else-is_empty.ensures) ∙ is_there c.register-else-is_empty.result.now c.is_empty-else-is_empty.result c.is_empty-else-is_empty.ensures c.if-is_empty-2.false)

pub returns-else-is_first-clause-handed : goal.returns-else-is_first-clause-handed
returns-else-is_first-clause-handed c =
    let registers = c.args.registers.now in
    (λ k. if sym c.if-is_first.false k then held_at registers c.args.a else held_at registers c.args.b)
    ∙ picked_is (held_at registers c.args.condition) (register_at registers c.args.a) (register_at registers c.args.b) c.in-Some.is_first
    (ap (λ r. truth_of (held_by r)) (sym c.register-2.ensures) ∙ sym c.truth.ensures ∙ c.in-Some.is)
    (ap (λ r. is_some (held_by r)) (sym c.register.ensures) ∙ is_there c.register.result.now c.is_empty.result c.is_empty.ensures c.if-is_empty.false)
    (ap (λ r. is_some (held_by r)) (sym c.register-else-is_empty.ensures) ∙ is_there c.register-else-is_empty.result.now c.is_empty-else-is_empty.result c.is_empty-else-is_empty.ensures c.if-is_empty-2.false)

pub returns-in-None-clause-handed : goal.returns-in-None-clause-handed
returns-in-None-clause-handed c =
    let registers = c.args.registers.now in
    unsaid (held_at registers c.args.condition) (held_at registers c.args.a) (held_at registers c.args.b) (ap (λ r. truth_of (held_by r)) (sym c.register-2.ensures) ∙ sym c.truth.ensures ∙ c.in-None.is)
