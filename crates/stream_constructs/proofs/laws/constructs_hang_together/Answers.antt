use Rattle.stream_constructs.proofs.Hung.{construct_hangs}
use Rattle.stream_constructs.proofs.laws.constructs_hang_together.Goals as goal

pub returns : goal.returns
returns g c p of n parts s fits itself stands = construct_hangs p n s c of parts fits itself (record { each = stands })
