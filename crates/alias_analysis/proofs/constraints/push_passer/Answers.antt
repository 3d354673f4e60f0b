use Rattle.alias_nears.proofs.Constraining.{passer_there, passer_added}
use Rattle.alias_analysis.proofs.constraints.push_passer.Goals as goal

pub returns-then-marks-passer : goal.returns-then-marks-passer
returns-then-marks-passer c = passer_there c.args.marks.now c.args.update c.args.flat.now c.args.edge c.args.pairs.now c.requires.marked c.if-marks-passer.true

pub returns : goal.returns
returns c = passer_added c.args.marks.now c.args.update c.args.flat.now c.args.edge c.get.result c.in_ok-wanted.wanted c.args.pairs.now c.push_if.new.pairs c.get.ensures c.in_ok-wanted.ensures c.in_ok-push_if.ensures
