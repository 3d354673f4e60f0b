use Rattle.std.proofs.Common.{ℕ, Contains, take}
use Rattle.decision_diagrams.specs.inner.Arena.{Grows}
use Rattle.trigger_diagram.specs.inner.Made.{AreNodesOf, IsMade}
use Rattle.trigger_diagram.proofs.made.make_all.Given as goal

abbrev pub invariant-loop-step : goal.invariant-loop-step
invariant-loop-step l = record {
  grows : Grows l.initial.arena l.arena;
  nodes : AreNodesOf l.rules l.starts l.arena l.nodes;
  made : (x : ℕ) → Contains (take l.step-index l.steps) x → IsMade l.nodes x;
}
