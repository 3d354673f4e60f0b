use Rattle.std.proofs.Common.{◌≡◌, ◌++◌, map, take, drop}
use Rattle.flat_core.specs.Renumbered.{with_new_equation}
use Rattle.flat_core.proofs.flat.replace_outputs.Given as goal

abbrev pub invariant-loop-output : goal.invariant-loop-output
invariant-loop-output l = l.outputs ≡ map (with_new_equation l.replaced) (take l.output-index l.initial.outputs) ++ drop l.output-index l.initial.outputs
