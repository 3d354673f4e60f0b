use Rattle.std.proofs.Common.{◌≡◌, map, drop}
use Rattle.syntax_tree.specs.inner.OneLevel.{item_of}
use Rattle.name_check.specs.Faults.{first}
use Rattle.function_bodies.specs.Bodies.{AreBodies, too_large_from, too_large_bodies}
use Rattle.function_bodies.proofs.functions.Functions.find_too_large.Given as goal

abbrev pub invariant-loop-number : goal.invariant-loop-number
invariant-loop-number l = AreBodies (map item_of l.items) l.self → first (too_large_from (map item_of l.items) l.number (map item_of (drop l.number l.items))) ≡ first (too_large_bodies (map item_of l.items))
