use Rattle.std.proofs.Common.{subst, sym, ◌∙◌}
use Rattle.plain_solver.specs.inner.ValueView.{IsAnswer}
use Rattle.event_why.proofs.RowLemmas.{own_at_once, own_delayed, own_lasting}
use Rattle.event_why.proofs.row.own_in.Goals as goal

pub returns-in_ok-copied-in-Last : goal.returns-in_ok-copied-in-Last
returns-in_ok-copied-in-Last c T can =
    own_lasting T c.args.lines.now c.args.t c.args.i c.args.e.now c.args.draft.now c.args.row.now can c.in_ok-copied-in-Last.field-0 c.in-Last.is
    (c.in_ok-copied-in-Last.ensures ∙ c.lasting_in.ensures T c.args.lines.now c.args.t c.args.i can c.in-Last.is)

pub returns-in-Delay : goal.returns-in-Delay
returns-in-Delay c T can =
    own_delayed T c.args.lines.now c.args.t c.args.i c.args.e.now c.args.draft.now c.args.row.now can c.expired_in.result c.in-Delay.is
    (c.expired_in.ensures T c.args.lines.now c.args.e.now c.args.row.now can c.in-Delay.is)

pub returns-in_default : goal.returns-in_default
returns-in_default c T can =
    subst (IsAnswer c.made_in.result)
    (sym (own_at_once T c.args.lines.now c.args.t c.args.i c.args.e.now c.args.draft.now c.args.row.now can c.in_default.not-Input c.in_default.not-Last c.in_default.not-Delay))
    c.made_in.ensures
