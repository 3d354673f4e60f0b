use Rattle.trigger_diagram.proofs.Depth.{variables_stand}
use Rattle.trigger_diagram.proofs.laws.variables_stand_in_formulas.Goals as goal

pub returns : goal.returns
returns c d s x n atoms can are node exact all y deep = variables_stand d s x n atoms can are node exact all y deep
