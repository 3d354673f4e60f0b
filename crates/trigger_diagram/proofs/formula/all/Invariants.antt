use Rattle.std.proofs.Common.{take}
use Rattle.std.specs.List.{list_all}
use Rattle.decision_diagrams.specs.inner.Arena.{Grows}
use Rattle.trigger_diagram.specs.inner.Made.{value_at}
use Rattle.trigger_diagram.specs.inner.Truth.{Tells}
use Rattle.trigger_diagram.proofs.formula.all.Given as goal

abbrev pub invariant-loop-arg : goal.invariant-loop-arg
invariant-loop-arg l = record {
  grows : Grows l.initial.arena l.arena;
  tells : Tells l.arena l.node (λ h. list_all (value_at l.initial.arena l.nodes h) (take l.arg-index l.args));
}
