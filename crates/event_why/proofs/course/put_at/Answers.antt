use Rattle.std.proofs.Common.{suc, ◌<◌, refl, arith}
use Rattle.event_why.specs.inner.Tale.{always, tale_of}
use Rattle.event_why.proofs.DraftLemmas.{ok_then}
use Rattle.event_why.proofs.course.put_at.Goals as goal

pub returns : goal.returns
returns c =
    ok_then c.put_all_pending.result c.put_all_pending.ensures
    (λ _ waits p z story row up_to.
    let t = c.args.t in
    let low : t < suc t = omega arith in
    let run = c.in_ok-put_instant.ensures p z (suc t) story low row up_to in
    let settled = c.in_ok-settle.ensures p z (suc t) t story low run in
    waits (tale_of c.args.story.now p z (suc t)) (always (suc t)) refl story low settled)
