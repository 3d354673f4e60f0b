use Rattle.macro_flatten.proofs.AllMarks.{refusals_are_those_of_marks}
use Rattle.macro_flatten.proofs.laws.refusals_are_those_of_marks.Goals as goal

pub returns : goal.returns
returns c = refusals_are_those_of_marks
