use Rattle.monitor_run.proofs.StateAfter.{state_after}
use Rattle.monitor_run.proofs.laws.saves_the_state.Goals as goal

pub returns : goal.returns
returns c = state_after
