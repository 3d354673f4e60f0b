use Rattle.flat_core.proofs.Shapes.{shape_of}
use Rattle.monitor_run.proofs.action.action_at.Goals as goal

pub action_of-requires : goal.action_of-requires
action_of-requires c = shape_of c.args.flat.now c.requires c.new.result c.equation.result.now c.equation.ensures
