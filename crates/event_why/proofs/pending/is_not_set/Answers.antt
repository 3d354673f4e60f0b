use Rattle.std.proofs.Common.{sym, ◌∙◌}
use Rattle.event_why.specs.Said.{said}
use Rattle.event_why.proofs.TellLemmas.{silent_from, silent_so}
use Rattle.event_why.proofs.pending.is_not_set.Goals as goal

pub returns-then-is_silent_at : goal.returns-then-is_silent_at
returns-then-is_silent_at c =
    let t = c.args.t in
    let second = c.is_silent_at-then-is_silent_at in (
      λ is. record {
        first = silent_from c.args.delay.now.reset t (said c.args.reset.now) (sym c.is_silent_at.ensures ∙ c.if-is_silent_at.true);
        second = silent_from c.args.delay.now.itself t (said c.args.itself.now) (sym second.ensures ∙ is);
      },
      λ r. second.ensures ∙ silent_so c.args.delay.now.itself t (said c.args.itself.now) r.second,
    )
