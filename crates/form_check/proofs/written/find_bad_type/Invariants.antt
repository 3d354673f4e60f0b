use Rattle.std.proofs.Common.{◌≡◌, map, drop}
use Rattle.syntax_tree.specs.inner.OneLevel.{item_of}
use Rattle.name_check.specs.Faults.{first}
use Rattle.form_check.specs.Types.{bad_types}
use Rattle.form_check.proofs.written.find_bad_type.Given as goal

abbrev pub invariant-loop-item : goal.invariant-loop-item
invariant-loop-item l = first (bad_types (map item_of (drop l.item-index l.items))) ≡ first (bad_types (map item_of l.items))
