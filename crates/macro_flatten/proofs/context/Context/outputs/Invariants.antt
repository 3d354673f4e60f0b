use Rattle.std.proofs.Common.{map, take}
use Rattle.syntax_tree.specs.inner.OneLevel.{item_of}
use Rattle.macro_flatten.specs.inner.Items.{AreOutputsMade}
use Rattle.macro_flatten.proofs.context.Context.outputs.Given as goal

abbrev pub invariant-loop-number : goal.invariant-loop-number
invariant-loop-number l = AreOutputsMade l.self 0 (map item_of (take l.number l.items)) l.fn.maker l.maker
