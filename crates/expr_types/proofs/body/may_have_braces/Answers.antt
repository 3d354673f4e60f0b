use Rattle.std.proofs.Common.{◌<◌, length, rules}
use Rattle.expr_types.proofs.BodyLemmas.{braces_in}
use Rattle.expr_types.proofs.body.may_have_braces.Goals as goal

pub returns-then-not-is_empty : goal.returns-then-not-is_empty
returns-then-not-is_empty c =
    let some : 0 < length c.args.params.now = search rules in
    braces_in c.args.params.now c.all_are_streams.result some c.all_are_streams.ensures
