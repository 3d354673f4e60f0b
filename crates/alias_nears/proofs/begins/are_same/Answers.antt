use Rattle.alias_nears.proofs.Nearing.{same_marks}
use Rattle.alias_nears.proofs.begins.are_same.Goals as goal

pub returns : goal.returns
returns c = same_marks c.args.first.now c.args.second.now c.marks.result.now c.marks-2.result.now c.eq.result c.marks.ensures c.marks-2.ensures c.eq.ensures
