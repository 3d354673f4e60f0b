use Rattle.std.proofs.Common.{◌≡◌, ℕ, List, length}
use Rattle.flat_core.specs.Line.{Line}
use Rattle.trace_monitor.specs.inner.Reading.{Fed, HasRead, HasReadOn}
use Rattle.trace_monitor.proofs.Waiting.{AreOn}
use Rattle.trace_monitor.proofs.monitor.take_lines.Given as goal

-- for all that was fed and all lines for which reader and engine stood, with the same code, and in step
abbrev pub invariant-loop-line : goal.invariant-loop-line
invariant-loop-line l = ((x : Fed) (lines : List Line) (text : List ℕ) → HasRead l.fn.reader l.fn.engine l.fn.last x lines text
    → HasReadOn l.reader l.fn.engine l.engine l.last x lines text l.fn.out l.out) × (l.engine.system ≡ l.fn.engine.system) × (l.engine.in_place ≡ l.fn.engine.in_place)
    × (l.engine.order ≡ l.fn.engine.order)
    × AreOn l.fn.reader l.fn.engine l.reader l.engine l.last

abbrev pub decreases-loop-line : goal.decreases-loop-line
decreases-loop-line l = length l.reader.unread
