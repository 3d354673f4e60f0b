use Rattle.state_snapshot.proofs.Fitting.{kept_there}
use Rattle.state_snapshot.proofs.monitor.read_monitor.Goals as goal

pub read_registers-requires : goal.read_registers-requires
read_registers-requires c = kept_there c.args.code.now.system c.flat-flat.result.now c.keeps.result.now c.flat-flat.ensures.flat c.keeps.ensures
