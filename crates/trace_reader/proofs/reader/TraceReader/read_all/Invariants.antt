use Rattle.std.proofs.Common.{ℕ, Bool, List, length}
use Rattle.flat_core.specs.System.{System}
use Rattle.flat_core.specs.Line.{Line}
use Rattle.trace_reader.specs.inner.AnyReader.{AreAsSet}
use Rattle.trace_reader.specs.inner.Reads.{Reads}
use Rattle.trace_reader.proofs.GatherLemmas.{HasGathered}
use Rattle.trace_reader.proofs.reader.TraceReader.read_all.Given as goal

-- for every trace and lines for which the reader stood
abbrev pub invariant-loop-self : goal.invariant-loop-self
invariant-loop-self l =
    ((s : System) (strict : Bool) (limit : ℕ) (fed : List ℕ) (given : List Line) (ended : Bool) → Reads l.fn.self s strict limit fed given ended →
    HasGathered l.self s strict limit fed given ended l.fn.lines.items l.lines.items)
    × AreAsSet l.fn.self l.self

abbrev pub decreases-loop-self : goal.decreases-loop-self
decreases-loop-self l = length l.self.unread
