use Rattle.tessla_cli.proofs.Loading.{compiled_loads}
use Rattle.tessla_cli.proofs.program.compiled.Goals as goal

pub returns-in-Ok : goal.returns-in-Ok
returns-in-Ok c = λ name. compiled_loads name c.args.source.now c.in-Ok.compiled.code c.in-Ok.ensures.system c.in-Ok.ensures.taken c.in-Ok.ensures.ready
