use Rattle.stream_constructs.proofs.Operands.{chooses_of}
use Rattle.stream_constructs.proofs.Updates.{choice_made}
use Rattle.stream_constructs.proofs.laws.choices_are_made.Goals as goal

pub returns : goal.returns
returns g p of n os parts fits inputs z t solved = choice_made p of n inputs z t (chooses_of os parts _ of fits.1 fits.0) (record { each = solved })
