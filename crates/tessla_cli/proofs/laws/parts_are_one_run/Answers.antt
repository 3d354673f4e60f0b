use Rattle.tessla_cli.proofs.HandedOn.{parts_are_one_run}
use Rattle.tessla_cli.proofs.laws.parts_are_one_run.Goals as goal

pub returns : goal.returns
returns c = parts_are_one_run
