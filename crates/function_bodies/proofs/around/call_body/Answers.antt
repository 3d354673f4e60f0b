use Rattle.std.proofs.Common.{◌≡◌, None, rules}
use Rattle.std.specs.Prelude.{slice_index_or}
use Rattle.function_bodies.proofs.CallLemmas.{missing}
use Rattle.function_bodies.proofs.around.call_body.Goals as goal

pub returns-in-Some-None : goal.returns-in-Some-None
returns-in-Some-None c =
    let none : slice_index_or c.args.functions.now c.args.number None ≡ None = search rules in
    λ ts h. missing c.args.functions.now c.args.number ts none

pub returns-in-None : goal.returns-in-None
returns-in-None c =
    let none : slice_index_or c.args.functions.now c.args.number None ≡ None = search rules in
    λ ts h. missing c.args.functions.now c.args.number ts none
