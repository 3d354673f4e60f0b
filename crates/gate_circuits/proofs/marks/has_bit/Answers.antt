use Rattle.std.proofs.Common.{◌%◌, ◌/◌, ◌^◌, ℕ, ap, ◌∙◌}
use Rattle.std.specs.Prelude.{bit_and}
use Rattle.std.specs.Int.{bit_at}
use Rattle.std.proofs.lemmas.Nat.Bits.{shr_and_one}
use Rattle.gate_circuits.proofs.Words.{has_is}
use Rattle.gate_circuits.proofs.marks.has_bit.Goals as goal

pub returns : goal.returns
returns c =
    has_is c.args.words.now c.args.number (bit_and (c.word.result / 2 ^ (c.args.number % 64)) 1)
    (shr_and_one c.word.result (c.args.number % 64) ∙ ap (λ (w : ℕ). bit_at w (c.args.number % 64)) c.word.ensures)
