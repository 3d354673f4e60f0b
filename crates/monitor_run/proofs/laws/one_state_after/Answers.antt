use Rattle.monitor_run.proofs.OneState.{one_state}
use Rattle.monitor_run.proofs.laws.one_state_after.Goals as goal

pub returns : goal.returns
returns c = one_state
