use Rattle.stream_constructs.proofs.Simple.{alias_made}
use Rattle.stream_constructs.proofs.laws.aliases_are_made.Goals as goal

pub returns : goal.returns
returns g p n a inputs z t solved = alias_made p n a inputs z t (record { each = solved })
