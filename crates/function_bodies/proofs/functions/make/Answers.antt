use Rattle.std.proofs.Common.{◌≤◌, length, rules}
use Rattle.function_bodies.proofs.MadeLemmas.{step_past}
use Rattle.function_bodies.proofs.functions.make.Goals as goal

pub returns-in-None : goal.returns-in-None
returns-in-None c =
    let past : length c.args.items.now ≤ c.args.number = search rules in
    step_past c.args.items.now c.args.names.now c.args.number c.args.bodies.now.items past c.requires
