use Rattle.std.proofs.Common.{◌≡◌, ◌<◌, ◌≤◌, ◌-◌, ◌+◌, length}
use Rattle.tsl_world.specs.Runs.{Runs}
use Rattle.tessla_cli.proofs.Reading.{HasRead}
use Rattle.tessla_cli.proofs.file.read_whole.Given as goal
use Rattle.trace_reader.specs.declared.limits.TheConstants.{MOST_PIECE_BYTES}

abbrev pub invariant-loop-slot : goal.invariant-loop-slot
invariant-loop-slot g l = record {
  room : 0 < length l.buf;
  short : length l.buf ≤ MOST_PIECE_BYTES;
  faults : g.W.World.faults l.world ≡ g.W.World.faults l.fn.world;
  unheard : g.W.World.unheard l.world ≡ g.W.World.unheard l.fn.world;
  calls : Runs g.W.World.told g.W.World.journal g.W.World.standing l.fn.world l.world (HasRead l.fn.slot l.fn.most l.bytes);
}

abbrev pub decreases-loop-slot : goal.decreases-loop-slot
decreases-loop-slot g l = l.fn.most + 1 - length l.bytes
