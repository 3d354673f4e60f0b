use Rattle.std.proofs.Common.{◌≡◌, map, filter, drop}
use Rattle.syntax_tree.specs.inner.OneLevel.{item_of}
use Rattle.name_check.specs.Scope.{seen}
use Rattle.name_check.specs.Parts.{part_place}
use Rattle.name_check.specs.inner.Shown.{parts_in}
use Rattle.name_check.specs.Faults.{first}
use Rattle.form_check.specs.Arity.{is_wrong, wrong_in}
use Rattle.form_check.proofs.arity.find_in_expression.Given as goal

abbrev pub invariant-loop-part : goal.invariant-loop-part
invariant-loop-part l = first (map part_place (filter (is_wrong (map item_of l.items) (seen l.scope)) (parts_in (drop l.part-index l.part-items)))) ≡ first (wrong_in (map item_of l.items) (record { scope = seen l.scope; expr = l.expression }))
