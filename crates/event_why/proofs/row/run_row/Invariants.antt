use Rattle.std.proofs.Common.{drop}
use Rattle.event_why.specs.inner.Row.{CanRun}
use Rattle.event_why.specs.inner.Tale.{Tale}
use Rattle.event_why.proofs.RowLemmas.{IsPartly}
use Rattle.event_why.proofs.row.run_row.Given as goal

abbrev pub invariant-loop-number : goal.invariant-loop-number
invariant-loop-number l = (T : Tale) → CanRun T l.flat l.lines l.t l.draft → IsPartly T l.t (drop l.number-index l.order) l.row.items
