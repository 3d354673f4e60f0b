use Rattle.gate_circuits.proofs.Words.{no_words}
use Rattle.gate_circuits.proofs.marks.Marks.without_room.Goals as goal

pub returns : goal.returns
returns c = no_words c.new.result.items c.new.ensures.items
