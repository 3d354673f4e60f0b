use Rattle.std.proofs.Common.{sym, ap, ◌∙◌}
use Rattle.monitor_run.specs.inner.Next.{earliest}
use Rattle.monitor_run.proofs.NextLemmas.{first_is}
use Rattle.monitor_run.proofs.next.first_time.Goals as goal

pub returns-else-next-eq0 : goal.returns-else-next-eq0
returns-else-next-eq0 c =
    first_is c.args.next c.args.given.now c.args.timers.now.times c.if-next-eq0.false c.requires.0 c.requires.1 c.next.result c.next.ensures.least c.earlier.result
    (sym (c.earlier.ensures ∙ ap (λ o. earliest o c.next.result) (c.time_of.ensures c.requires.0 c.requires.1)))
