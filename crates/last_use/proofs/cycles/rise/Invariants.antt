use Rattle.last_use.proofs.Rising.{RiseBelow}
use Rattle.last_use.proofs.cycles.rise.Given as goal

abbrev pub invariant-loop-first : goal.invariant-loop-first
invariant-loop-first l = RiseBelow l.pairs l.places l.first-index
