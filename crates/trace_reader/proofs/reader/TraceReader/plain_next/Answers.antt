use Rattle.trace_reader.proofs.PlainLemmas.{if_stands}
use Rattle.trace_reader.proofs.reader.TraceReader.plain_next.Goals as goal

pub returns : goal.returns
returns c =
    let line = rw c.as_slice.ensures at c.in_ok-line.ensures in
    rw (← c.self.view_is) (if_stands _ c.in_ok-line.line c.if_later.result line c.if_later.ensures)
