use Rattle.std.proofs.Common.{◌≡◌, map, drop}
use Rattle.std.specs.List.{flat_map}
use Rattle.syntax_tree.specs.inner.OneLevel.{item_of}
use Rattle.name_check.specs.Faults.{first}
use Rattle.name_check.specs.inner.Steps.{unknown_in_item}
use Rattle.name_check.proofs.unknown.find_in_items.Given as goal

abbrev pub invariant-loop-item : goal.invariant-loop-item
invariant-loop-item l = first (flat_map (unknown_in_item l.names) (map item_of (drop l.item-index l.items))) ≡ first (flat_map (unknown_in_item l.names) (map item_of l.items))
