use Rattle.gate_circuits.proofs.Words.{no_words}
use Rattle.gate_circuits.proofs.marks.Marks.clear.Goals as goal

pub returns : goal.returns
returns c = no_words _ c.clear.ensures.items
