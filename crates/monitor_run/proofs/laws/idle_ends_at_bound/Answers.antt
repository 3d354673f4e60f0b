use Rattle.monitor_run.proofs.LawLemmas.{idle_ends}
use Rattle.monitor_run.proofs.laws.idle_ends_at_bound.Goals as goal

pub returns : goal.returns
returns c = λ old new lines text before after ready written stepped. idle_ends old lines text ready written stepped.2
