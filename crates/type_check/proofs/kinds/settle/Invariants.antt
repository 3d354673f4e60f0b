use Rattle.std.proofs.Common.{map, take}
use Rattle.syntax_tree.specs.inner.OneLevel.{item_of}
use Rattle.expr_types.specs.inner.Shown.{kinds_of}
use Rattle.type_check.proofs.KindLemmas.{Settled}
use Rattle.type_check.proofs.kinds.settle.Given as goal

abbrev pub invariant-loop-node : goal.invariant-loop-node
invariant-loop-node l = Settled (map item_of l.items) (take l.node-index l.order) (kinds_of l.initial.kinds) (kinds_of l.kinds)
