use Rattle.std.proofs.Common.{subst}
use Rattle.decision_diagrams.specs.inner.Arena.{IsArena}
use Rattle.decision_diagrams.proofs.Once.{all_canonical}
use Rattle.decision_diagrams.proofs.arena.Arena.canonical.Goals as goal

pub returns : goal.returns
returns c = all_canonical c.args.self.now (subst IsArena c.self.view_is c.self.invariant)
