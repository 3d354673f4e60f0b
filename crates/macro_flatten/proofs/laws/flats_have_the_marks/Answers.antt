use Rattle.macro_flatten.proofs.AllMarks.{flats_have_the_marks}
use Rattle.macro_flatten.proofs.laws.flats_have_the_marks.Goals as goal

pub returns : goal.returns
returns c = flats_have_the_marks
