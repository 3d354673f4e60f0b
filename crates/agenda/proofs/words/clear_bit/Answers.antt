use Rattle.agenda.proofs.WordLemmas.{bit_cleared}
use Rattle.agenda.proofs.words.clear_bit.Goals as goal

pub returns : goal.returns
returns c = bit_cleared c.args.words.now c.args.place c.requires
