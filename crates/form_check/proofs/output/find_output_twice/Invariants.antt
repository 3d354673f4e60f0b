use Rattle.std.proofs.Common.{◌≡◌, map, drop}
use Rattle.std.specs.String.{string_bytes}
use Rattle.syntax_tree.specs.inner.OneLevel.{item_of}
use Rattle.name_check.specs.Faults.{first}
use Rattle.form_check.specs.Outputs.{twice_after, outputs_twice}
use Rattle.form_check.proofs.output.find_output_twice.Given as goal

abbrev pub invariant-loop-item : goal.invariant-loop-item
invariant-loop-item l = first (twice_after (map string_bytes l.names.keys) (map item_of (drop l.item-index l.items))) ≡ first (outputs_twice (map item_of l.items))
