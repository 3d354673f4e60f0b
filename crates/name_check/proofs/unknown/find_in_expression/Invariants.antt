use Rattle.std.proofs.Common.{◌≡◌, drop}
use Rattle.name_check.specs.Scope.{seen}
use Rattle.name_check.specs.Faults.{first, unknown_in}
use Rattle.name_check.proofs.UnknownLemmas.{unknown_among}
use Rattle.name_check.proofs.unknown.find_in_expression.Given as goal

abbrev pub invariant-loop-part : goal.invariant-loop-part
invariant-loop-part l = first (unknown_among (seen l.scope) (drop l.part-index l.part-items)) ≡ first (unknown_in (record { scope = seen l.scope; expr = l.expression }))
