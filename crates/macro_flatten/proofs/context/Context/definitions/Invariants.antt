use Rattle.std.proofs.Common.{map, take}
use Rattle.syntax_tree.specs.inner.OneLevel.{item_of}
use Rattle.macro_flatten.specs.inner.Items.{AreStreamsMade}
use Rattle.macro_flatten.proofs.context.Context.definitions.Given as goal

abbrev pub invariant-loop-number : goal.invariant-loop-number
invariant-loop-number l = AreStreamsMade l.self (map item_of (take l.number l.items)) l.fn.maker l.maker
