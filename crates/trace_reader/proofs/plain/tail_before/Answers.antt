use Rattle.trace_reader.proofs.PlainLemmas.{tail_if}
use Rattle.trace_reader.proofs.plain.tail_before.Goals as goal

pub returns-in-Some : goal.returns-in-Some
returns-in-Some c = tail_if c.args.of c.args.bytes.now c.in-Some.written.now _ _ c.value_before.result c.in-Some.ensures c.value_before.ensures
