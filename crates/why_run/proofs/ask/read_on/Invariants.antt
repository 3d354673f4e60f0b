use Rattle.std.proofs.Common.{◌≡◌, ◌<◌, ◌≤◌, ℕ, List, false, length}
use Rattle.trace_reader.specs.declared.limits.TheConstants.{MOST_PIECE_BYTES}
use Rattle.trace_why.specs.Ending.{IsAwaited}
use Rattle.trace_why.specs.inner.Kept.{Kept}
use Rattle.tsl_world.specs.Runs.{Runs}
use Rattle.why_run.proofs.Asking.{Asked}
use Rattle.why_run.proofs.ask.read_on.Given as goal

-- the monitor stands for the bytes that were read, more are awaited, and each round so far has read a byte at least
abbrev pub invariant-loop : goal.invariant-loop
invariant-loop g l = (0 < length l.buf) × (length l.buf ≤ MOST_PIECE_BYTES) × (g.W.World.faults l.world ≡ g.W.World.faults l.fn.world)
    × (g.W.World.unheard l.world ≡ g.W.World.unheard l.fn.world)
    × (l.monitor.system ≡ l.fn.monitor.system) × (l.monitor.options ≡ l.fn.monitor.options) × (l.monitor.question ≡ l.fn.monitor.question)
    × ((fed : List ℕ) × Kept l.monitor fed × (l.counter ≤ length fed)
    × IsAwaited l.fn.monitor.system l.fn.monitor.options l.fn.monitor.question fed false
    × Runs g.W.World.told g.W.World.journal g.W.World.standing l.fn.world l.world (Asked l.fn.monitor.system l.fn.monitor.options l.fn.monitor.question fed false))
