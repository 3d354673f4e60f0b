use Rattle.std.proofs.Common.{◌≡◌, map, drop}
use Rattle.syntax_tree.specs.inner.OneLevel.{item_of}
use Rattle.name_check.specs.Faults.{first}
use Rattle.form_check.specs.Declared.{mixed_parameters}
use Rattle.form_check.proofs.declared.find_mixed_parameters.Given as goal

abbrev pub invariant-loop-item : goal.invariant-loop-item
invariant-loop-item l = first (mixed_parameters (map item_of (drop l.item-index l.items))) ≡ first (mixed_parameters (map item_of l.items))
