use Rattle.code_reader.proofs.Entering.{AreEntered}
use Rattle.code_reader.proofs.parts.read_equations.Given as goal

abbrev pub invariant-loop-number : goal.invariant-loop-number
invariant-loop-number l = AreEntered l.number l.count l.all.items l.running l.rest l.bytes
