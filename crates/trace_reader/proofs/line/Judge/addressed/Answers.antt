use Rattle.trace_reader.proofs.JudgedLemmas.{called_within}
use Rattle.trace_reader.proofs.line.Judge.addressed.Goals as goal

pub placed-requires : goal.placed-requires
placed-requires c = called_within c.args.self.now.inputs.now c.args.name.now c.in-Some.input c.in-Some.ensures
