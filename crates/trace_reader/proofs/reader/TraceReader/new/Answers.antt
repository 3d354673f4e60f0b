use Rattle.trace_reader.proofs.StandLemmas.{reads_fresh}
use Rattle.trace_reader.proofs.reader.TraceReader.new.Goals as goal

pub returns-clause-reads : goal.returns-clause-reads
returns-clause-reads c = rw (c.in_ok-new.ensures, c.new-2.ensures, c.new-3.ensures.items, c.none.ensures) (reads_fresh c.args.flat.now c.args.strict c.args.limit)
