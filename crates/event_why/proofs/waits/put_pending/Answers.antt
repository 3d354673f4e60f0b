use Rattle.std.proofs.Common.{sym, ◌∙◌}
use Rattle.event_why.proofs.DraftLemmas.{ok_then}
use Rattle.event_why.proofs.WaitLemmas.{itself_known, reset_known}
use Rattle.event_why.proofs.waits.put_pending.Goals as goal

pub returns : goal.returns
returns c =
    ok_then c.put_kept.result c.put_kept.ensures
    (λ n kept T wait. kept T c.args.amount wait
    (sym (reset_known T c.args.t c.args.i c.args.amount c.args.reset c.args.draft.now wait c.has_event.result c.has_event.ensures) ∙ c.if-has_event.false)
    (sym (itself_known T c.args.t c.args.i c.args.amount c.args.reset c.args.draft.now wait c.has_event-2.result c.has_event-2.ensures) ∙ c.if-has_event-2.false))
