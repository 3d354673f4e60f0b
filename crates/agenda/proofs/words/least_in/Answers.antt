use Rattle.agenda.proofs.WordLemmas.{least_bit}
use Rattle.agenda.proofs.words.least_in.Goals as goal

pub returns : goal.returns
returns c = (least_bit c.args.words.now c.args.word c.requires.filled (c.type_inv.words c.args.word).fits).1
