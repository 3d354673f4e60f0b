use Rattle.std.proofs.Common.{◌≡◌, drop}
use Rattle.std.specs.List.{flat_map}
use Rattle.name_check.specs.inner.Shown.{parts_in}
use Rattle.name_check.specs.Faults.{first}
use Rattle.form_check.specs.Types.{bad_in_part, bad_in_expression}
use Rattle.form_check.proofs.written.find_in_expression.Given as goal

abbrev pub invariant-loop-part : goal.invariant-loop-part
invariant-loop-part l = first (flat_map bad_in_part (parts_in (drop l.part-index l.part-items))) ≡ first (bad_in_expression l.expression)
