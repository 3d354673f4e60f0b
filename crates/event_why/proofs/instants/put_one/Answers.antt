use Rattle.std.proofs.Common.{refl, sym, ◌∙◌}
use Rattle.event_why.proofs.DraftLemmas.{ok_then}
use Rattle.event_why.proofs.RunLemmas.{put_event, put_silence}
use Rattle.event_why.proofs.instants.put_one.Goals as goal

pub returns-in_ok-by-in-Some : goal.returns-in_ok-by-in-Some
returns-in_ok-by-in-Some c =
    ok_then c.put.result c.put.ensures
    (λ n put T can is. put_event T c.args.t c.args.i c.args.e.now c.args.draft.now can c.put.new.self _ n put _ (sym is ∙ c.in-Some.is) c.in_ok-by-in-Some.ensures refl)

pub returns-in_ok-by-in-None : goal.returns-in_ok-by-in-None
returns-in_ok-by-in-None c =
    ok_then c.put-in-None.result c.put-in-None.ensures
    (λ n put T can is. put_silence T c.args.t c.args.i c.args.e.now c.args.draft.now can c.put-in-None.new.self _ n put (sym is ∙ c.in-None.is) c.in_ok-by-in-None.ensures refl)
