use Rattle.flat_core.proofs.Shapes.{args_there, shape_of}
use Rattle.plain_solver.proofs.TypedLemmas.{takes_typed}
use Rattle.plain_solver.proofs.instant.first_root.Goals as goal

pub root_of-requires-clause-known : goal.root_of-requires-clause-known
root_of-requires-clause-known c = args_there c.args.flat.now c.new-i.result c.equation.result.now _ c.count-n-end.ensures.is_flat c.equation.ensures c.requires.one_each

pub root_of-requires-clause-shape : goal.root_of-requires-clause-shape
root_of-requires-clause-shape c = shape_of c.args.flat.now c.count-n-end.ensures.is_flat c.new-i.result c.equation.result.now c.equation.ensures

pub root_of-requires-clause-typed : goal.root_of-requires-clause-typed
root_of-requires-clause-typed c = takes_typed c.args.flat.now c.count-n-end.ensures.is_flat _ c.requires.typed c.new-i.result c.equation.result.now c.equation.ensures c.args.t
