use Rattle.std.proofs.Common.{List}
use Rattle.flat_core.specs.Line.{Line}
use Rattle.plain_solver.specs.inner.Instant.{AreSound}
use Rattle.event_why.specs.declared.draft.Draft.{Draft}
use Rattle.event_why.specs.inner.Row.{CanRun, IsRow}
use Rattle.event_why.specs.inner.Tale.{Tale}
use Rattle.event_why.proofs.row.root_in.Given as goal

abbrev pub invariant-loop-n : goal.invariant-loop-n
invariant-loop-n l =
    (T : Tale) (lines : List Line) (draft : Draft) →
    CanRun T l.flat lines l.t draft →
    IsRow T l.t l.row →
    AreSound T.system T.inputs T.streams l.t l.n
