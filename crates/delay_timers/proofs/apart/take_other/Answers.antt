use Rattle.delay_timers.proofs.TimesLemmas.{none_due_of_none}
use Rattle.delay_timers.proofs.apart.take_other.Goals as goal

pub returns-then-is_clear-clause-due : goal.returns-then-is_clear-clause-due
returns-then-is_clear-clause-due c = none_due_of_none c.args.others.now.times c.args.at (c.requires.clear c.if-is_clear.true)
