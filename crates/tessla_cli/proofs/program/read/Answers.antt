use Rattle.tessla_cli.proofs.Loading.{read_loads}
use Rattle.tessla_cli.proofs.program.read.Goals as goal

pub returns-in-Ok : goal.returns-in-Ok
returns-in-Ok c = λ name. read_loads name c.args.bytes.now c.in-Ok.code c.in-Ok.ensures.spelled c.in-Ok.ensures.checked
