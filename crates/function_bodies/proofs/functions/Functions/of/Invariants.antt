use Rattle.std.proofs.Common.{map, take}
use Rattle.syntax_tree.specs.inner.OneLevel.{item_of}
use Rattle.function_bodies.specs.inner.Made.{AreMade}
use Rattle.function_bodies.proofs.functions.Functions.of.Given as goal

abbrev pub invariant-loop-number : goal.invariant-loop-number
invariant-loop-number l = AreMade (map item_of l.items) (take l.number-index l.number-items) l.bodies.items
