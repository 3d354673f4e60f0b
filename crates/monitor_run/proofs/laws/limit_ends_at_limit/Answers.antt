use Rattle.monitor_run.proofs.LawLemmas.{limit_below}
use Rattle.monitor_run.proofs.laws.limit_ends_at_limit.Goals as goal

pub returns : goal.returns
returns c = λ old new lines text before after count t ready written stepped w solves. limit_below old lines text count t ready written stepped.2 w solves
