use Rattle.stream_constructs.proofs.Hangs.{alias_hangs}
use Rattle.stream_constructs.proofs.laws.aliases_hang_together.Goals as goal

pub returns : goal.returns
returns g p n a s stands = alias_hangs p n a s (record { each = stands })
