use Rattle.gate_circuits.proofs.Words.{added_here, added_other}
use Rattle.gate_circuits.proofs.marks.set_bit.Goals as goal

pub returns-clause-here : goal.returns-clause-here
returns-clause-here c = added_here c.args.words.now c.args.number c.requires

pub returns-clause-others : goal.returns-clause-others
returns-clause-others c = added_other c.args.words.now c.args.number c.requires
