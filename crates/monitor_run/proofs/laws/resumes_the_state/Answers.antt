use Rattle.monitor_run.proofs.ResumeLemmas.{resumed}
use Rattle.monitor_run.proofs.laws.resumes_the_state.Goals as goal

pub returns : goal.returns
returns c = resumed
