use Rattle.std.proofs.Common.{◌≡◌, ◌<◌, ◌≤◌, length}
use Rattle.trace_monitor.specs.inner.Waits.{Waits}
use Rattle.tsl_world.specs.Runs.{Runs}
use Rattle.trace_run.specs.inner.Round.{AreAlike}
use Rattle.trace_run.proofs.Following.{Goes}
use Rattle.trace_run.proofs.watch.watch.Given as goal
use Rattle.trace_reader.specs.declared.limits.TheConstants.{MOST_PIECE_BYTES}

-- the monitor may be given a piece, whatever it stands for, and each round so far has taken a byte at least
abbrev pub invariant-loop : goal.invariant-loop
invariant-loop g l = record {
  room : 0 < length l.buf;
  short : length l.buf ≤ MOST_PIECE_BYTES;
  faults : g.W.World.faults l.world ≡ g.W.World.faults l.fn.world;
  unheard : g.W.World.unheard l.world ≡ g.W.World.unheard l.fn.world;
  alike : AreAlike l.fn.monitor l.monitor;
  waits : Waits l.monitor;
  taken : l.counter ≤ l.monitor.reader.taken;
  calls : Runs g.W.World.told g.W.World.journal g.W.World.standing l.fn.world l.world (Goes l.fn.monitor l.monitor);
}
