use Rattle.std.proofs.Common.{◌≡◌, ◌++◌, map, take, drop}
use Rattle.flat_core.specs.Renumbered.{with_new_args}
use Rattle.flat_core.proofs.flat.replace_args.Given as goal

abbrev pub invariant-loop-equation : goal.invariant-loop-equation
invariant-loop-equation l = l.equations ≡ map (with_new_args l.replaced) (take l.equation-index l.initial.equations) ++ drop l.equation-index l.initial.equations
