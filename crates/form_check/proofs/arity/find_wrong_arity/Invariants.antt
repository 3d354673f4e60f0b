use Rattle.std.proofs.Common.{◌≡◌, map, drop}
use Rattle.std.specs.List.{flat_map}
use Rattle.syntax_tree.specs.inner.OneLevel.{item_of}
use Rattle.name_check.specs.Faults.{first}
use Rattle.form_check.specs.Arity.{wrong_in_item, wrong_where}
use Rattle.form_check.proofs.arity.find_wrong_arity.Given as goal

abbrev pub invariant-loop-item : goal.invariant-loop-item
invariant-loop-item l = first (flat_map (wrong_in_item (map item_of l.items) l.names) (map item_of (drop l.item-index l.items))) ≡ first (wrong_where l.names (map item_of l.items))
