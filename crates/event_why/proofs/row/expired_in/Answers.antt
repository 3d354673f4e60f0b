use Rattle.std.proofs.Common.{Some, None, ap, sym, ◌∙◌}
use Rattle.std.specs.Prelude.{if◌then◌else◌}
use Rattle.flat_core.specs.Events.{unit}
use Rattle.event_why.proofs.RowLemmas.{delayed_by}
use Rattle.event_why.proofs.row.expired_in.Goals as goal

pub returns-then-is_due_now : goal.returns-then-is_due_now
returns-then-is_due_now c T lines e row can op_is =
    delayed_by T lines c.args.t c.args.i e c.args.draft.now row can (Some c.of_scalar.result) op_is c.is_due_now.ensures.small c.is_due_now.result c.is_due_now.ensures.due
    (ap Some c.of_scalar.ensures ∙ sym (λ k. if c.if-is_due_now.true k then Some unit else None))

pub returns-else-is_due_now : goal.returns-else-is_due_now
returns-else-is_due_now c T lines e row can op_is =
    delayed_by T lines c.args.t c.args.i e c.args.draft.now row can None op_is c.is_due_now.ensures.small c.is_due_now.result c.is_due_now.ensures.due
    (sym (λ k. if c.if-is_due_now.false k then Some unit else None))
