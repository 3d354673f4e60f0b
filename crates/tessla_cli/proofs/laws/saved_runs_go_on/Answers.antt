use Rattle.tessla_cli.proofs.HandedOn.{saved_runs_go_on}
use Rattle.tessla_cli.proofs.laws.saved_runs_go_on.Goals as goal

pub returns : goal.returns
returns c = saved_runs_go_on
