use Rattle.stream_constructs.proofs.Made.{construct_made}
use Rattle.stream_constructs.proofs.laws.constructs_are_made.Goals as goal

pub returns : goal.returns
returns g c p of n parts fits itself inputs z t solved = construct_made p of n inputs z t c parts fits itself (record { each = solved })
