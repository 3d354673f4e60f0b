use Rattle.std.proofs.Common.{drop, map}
use Rattle.syntax_tree.specs.inner.OneLevel.{item_of}
use Rattle.macro_flatten.proofs.Inputs.{AreLeft}
use Rattle.macro_flatten.proofs.top.inputs.Given as goal

abbrev pub invariant-loop-item : goal.invariant-loop-item
invariant-loop-item l = AreLeft (map item_of l.items) l.fn.maker l.maker l.streams.items (map item_of (drop l.item-index l.items))
