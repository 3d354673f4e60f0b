use Rattle.tessla_cli.proofs.SameRun.{files_run_as_meant}
use Rattle.tessla_cli.proofs.laws.files_run_as_meant.Goals as goal

pub returns : goal.returns
returns c = files_run_as_meant
