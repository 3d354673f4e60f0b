use Rattle.agenda.proofs.WordLemmas.{bit_set}
use Rattle.agenda.proofs.words.set_bit.Goals as goal

pub returns : goal.returns
returns c = bit_set c.args.words.now c.args.place c.requires
