use Rattle.flat_core.proofs.Shapes.{args_there, shape_of}
use Rattle.monitor_run.proofs.run.bar.Goals as goal

pub pass_fault-requires-clause-shape : goal.pass_fault-requires-clause-shape
pass_fault-requires-clause-shape c = shape_of c.args.flat.now c.requires.whole c.args.id c.equation.result.now c.equation.ensures

pub pass_fault-requires-clause-known : goal.pass_fault-requires-clause-known
pass_fault-requires-clause-known c = args_there c.args.flat.now c.args.id c.equation.result.now _ c.requires.whole c.equation.ensures c.requires.room.faulted
