use Rattle.plain_solver.proofs.TypedLemmas.{takes_liftable}
use Rattle.plain_solver.proofs.at_once.at_once.Goals as goal

pub lift_value-requires : goal.lift_value-requires
lift_value-requires c = takes_liftable c.args.e.now c.in-Lift.body c.in-Lift.strict c.in-Lift.is c.args.values.now c.requires.typed
