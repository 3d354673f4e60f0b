use Rattle.std.proofs.Common.{◌≡◌, None, rules}
use Rattle.std.specs.Prelude.{slice_index_or}
use Rattle.stream_shapes.proofs.ShapeLemmas.{body_found}
use Rattle.stream_shapes.proofs.call.function_lift.Goals as goal

pub returns-in-None : goal.returns-in-None
returns-in-None c =
    let missing : slice_index_or c.args.functions.now c.args.number None ≡ None = search rules in
    λ items right small function. (let there = body_found items c.args.functions.now c.args.number right small function in absurd (cc))
