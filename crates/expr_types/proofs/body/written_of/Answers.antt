use Rattle.std.proofs.Common.{◌<◌, length, rules}
use Rattle.expr_types.proofs.BodyLemmas.{written_some}
use Rattle.expr_types.proofs.body.written_of.Goals as goal

pub returns-else-is_empty : goal.returns-else-is_empty
returns-else-is_empty c =
    let some : 0 < length c.args.params.now = search rules in
    written_some c.args.params.now c.args.written.now c.written_just.result some c.written_just.ensures
