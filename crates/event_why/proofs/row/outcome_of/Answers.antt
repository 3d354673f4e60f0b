use Rattle.std.proofs.Common.{Some, None, Ok, ap, subst, sym, ◌∙◌}
use Rattle.flat_core.specs.Case.{own}
use Rattle.plain_solver.specs.inner.ValueView.{IsAnswer}
use Rattle.event_why.proofs.RowLemmas.{happens_blocked, happens_own}
use Rattle.event_why.proofs.row.outcome_of.Goals as goal

pub returns-then-is_blocked_in : goal.returns-then-is_blocked_in
returns-then-is_blocked_in c T can =
    happens_blocked T c.args.lines.now c.args.t c.args.i c.args.e.now c.args.draft.now c.args.row.now can (sym c.is_blocked_in.ensures ∙ c.if-is_blocked_in.true)

pub returns-in-Ok-Some : goal.returns-in-Ok-Some
returns-in-Ok-Some c T can =
    happens_own T c.args.lines.now c.args.t c.args.i c.args.e.now c.args.draft.now c.args.row.now can (sym c.is_blocked_in.ensures ∙ c.if-is_blocked_in.false)
    (Ok (Some c.in-Ok-Some.value))
    (subst (λ r. IsAnswer r (own T.inputs T.streams c.args.i c.args.e.now c.args.t)) c.in-Ok-Some.is (c.own_in.ensures T can) ∙ ap Ok c.in-Ok-Some.field-0-is)

pub returns-in-Ok-None : goal.returns-in-Ok-None
returns-in-Ok-None c T can =
    happens_own T c.args.lines.now c.args.t c.args.i c.args.e.now c.args.draft.now c.args.row.now can (sym c.is_blocked_in.ensures ∙ c.if-is_blocked_in.false)
    (Ok None)
    (subst (λ r. IsAnswer r (own T.inputs T.streams c.args.i c.args.e.now c.args.t)) c.in-Ok-None.is (c.own_in.ensures T can) ∙ ap Ok c.in-Ok-None.field-0-is)
