use Rattle.trace_reader.proofs.IntLemmas.{int_is}
use Rattle.trace_reader.proofs.line.small_literal.Goals as goal

pub returns-in-Int : goal.returns-in-Int
returns-in-Int c = int_is c.args.of c.args.bytes.now c.small_int.result c.in-Int.is c.small_int.ensures
