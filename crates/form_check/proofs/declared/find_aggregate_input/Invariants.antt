use Rattle.std.proofs.Common.{◌≡◌, map, drop}
use Rattle.syntax_tree.specs.inner.OneLevel.{item_of}
use Rattle.name_check.specs.Faults.{first}
use Rattle.form_check.specs.Declared.{aggregate_inputs}
use Rattle.form_check.proofs.declared.find_aggregate_input.Given as goal

abbrev pub invariant-loop-item : goal.invariant-loop-item
invariant-loop-item l = first (aggregate_inputs (map item_of (drop l.item-index l.items))) ≡ first (aggregate_inputs (map item_of l.items))
