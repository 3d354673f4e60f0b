use Rattle.std.proofs.Common.{◌<◌, length, rules}
use Rattle.name_check.proofs.TwiceLemmas.{have_values}
use Rattle.name_check.proofs.scope.are_values.Goals as goal

pub returns-then-not-is_empty : goal.returns-then-not-is_empty
returns-then-not-is_empty c =
    let some : 0 < length c.args.params.now = search rules in
    have_values c.args.params.now c.some_are_streams.result some c.some_are_streams.ensures
