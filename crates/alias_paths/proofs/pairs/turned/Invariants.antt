use Rattle.std.proofs.Common.{take}
use Rattle.alias_paths.specs.inner.Pairs.{AreTurned}
use Rattle.alias_paths.proofs.pairs.turned.Given as goal

abbrev pub invariant-loop-first : goal.invariant-loop-first
invariant-loop-first l = AreTurned (take l.first-index l.pairs) l.turned
