use Rattle.std.proofs.Common.{◌≡◌, ℕ, List, ◌-◌}
use Rattle.flat_core.specs.Line.{Line}
use Rattle.monitor_run.specs.inner.Written.{HasWritten}
use Rattle.trace_monitor.proofs.Going.{HasGoneOn}
use Rattle.trace_monitor.proofs.Waiting.{HasGoneAny}
use Rattle.trace_monitor.proofs.monitor.run.Given as goal

-- for all lines for which the engine stood, with the same code, and whatever it stands for
abbrev pub invariant-loop-stop : goal.invariant-loop-stop
invariant-loop-stop l = ((lines : List Line) (text : List ℕ) → HasWritten l.fn.engine lines text → HasGoneOn l.fn.engine l.engine lines text l.fn.out l.out) × (l.engine.system ≡ l.fn.engine.system) × (l.engine.in_place ≡ l.fn.engine.in_place)
    × (l.engine.order ≡ l.fn.engine.order)
    × HasGoneAny l.fn.engine l.engine

abbrev pub decreases-loop-stop : goal.decreases-loop-stop
decreases-loop-stop l = l.engine.bound - l.engine.next
