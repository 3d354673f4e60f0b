use Rattle.std.proofs.Common.{◌≡◌, ◌++◌, map, drop}
use Rattle.syntax_tree.specs.inner.OneLevel.{item_of}
use Rattle.type_check.specs.inner.Slots.{slots, slots_from}
use Rattle.type_check.proofs.slot.slots_of.Given as goal

abbrev pub invariant-loop-number : goal.invariant-loop-number
invariant-loop-number l = l.slots.items ++ slots_from l.number (map item_of (drop l.number l.items)) ≡ slots (map item_of l.items)
