use Rattle.std.proofs.Common.{◌≡◌, map, take}
use Rattle.flat_core.specs.Renumbered.{new_number}
use Rattle.flat_simplify.proofs.simplify.printed.Given as goal

abbrev pub invariant-loop-output : goal.invariant-loop-output
invariant-loop-output l = l.ids.items ≡ map (λ o. new_number l.replaced o.equation) (take l.output-index l.outputs)
