use Rattle.std.proofs.Common.{◌≤◌}
use Rattle.gate_circuits.specs.inner.Search.{IsNarrowed, AreHeld}
use Rattle.gate_circuits.proofs.knowledge.Knowledge.descend.Given as goal

abbrev pub invariant-down : goal.invariant-down
invariant-down l = record {
  narrowed : IsNarrowed l.self l.initial.turn l.turn;
  held : AreHeld l.self l.turn.wanted l.turn.place;
  low : l.turn.place ≤ l.initial.turn.place;
}

abbrev pub decreases-down : goal.decreases-down
decreases-down l = l.turn.place
