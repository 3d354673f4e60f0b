use Rattle.monitor_run.proofs.LawLemmas.{goes_on_written}
use Rattle.monitor_run.proofs.laws.steps_go_on.Goals as goal

pub returns : goal.returns
returns c = λ old new lines text before added ready written ran. goes_on_written old new lines text before added written ran
