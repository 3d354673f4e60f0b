use Rattle.delay_timers.proofs.ApartLemmas.{before_none}
use Rattle.delay_timers.proofs.apart.is_before_all.Goals as goal

pub returns-in-None : goal.returns-in-None
returns-in-None c = λ _. before_none c.args.due.now c.first.result c.args.others.now.times c.in-None.is c.first.ensures.first
