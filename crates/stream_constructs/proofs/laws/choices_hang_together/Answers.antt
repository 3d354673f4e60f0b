use Rattle.stream_constructs.proofs.Hung.{choice_hangs}
use Rattle.stream_constructs.proofs.laws.choices_hang_together.Goals as goal

pub returns : goal.returns
returns g p of n os parts s fits stands = choice_hangs p of n s os parts fits (record { each = stands })
