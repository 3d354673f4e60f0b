use Rattle.std.proofs.Common.{◌≡◌, length, true}
use Rattle.tsl_world.specs.Runs.{Runs}
use Rattle.tsl_world.specs.Standing.{is_writable}
use Rattle.trace_run.proofs.Writing.{HasGiven}
use Rattle.trace_run.proofs.write.write_all.Given as goal

abbrev pub invariant-loop-rest : goal.invariant-loop-rest
invariant-loop-rest g l = record {
  faults : g.W.World.faults l.world ≡ g.W.World.faults l.fn.world;
  unheard : g.W.World.unheard l.world ≡ g.W.World.unheard l.fn.world;
  stands : is_writable (g.W.World.standing l.world) l.to ≡ true;
  calls : Runs g.W.World.told g.W.World.journal g.W.World.standing l.fn.world l.world (HasGiven l.to l.fn.bytes l.rest);
}

abbrev pub decreases-loop-rest : goal.decreases-loop-rest
decreases-loop-rest g l = length l.rest
