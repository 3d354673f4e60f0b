use Rattle.std.proofs.Common.{take}
use Rattle.alias_paths.specs.inner.Pairs.{Adds, IsGiven}
use Rattle.alias_paths.proofs.Using.{IsOfArgument}
use Rattle.alias_paths.proofs.uses.push_variables.Given as goal

abbrev pub invariant-loop-argument : goal.invariant-loop-argument
invariant-loop-argument l = Adds l.initial.pairs (IsGiven (take l.argument-index l.arguments) (IsOfArgument l.flat l.number)) l.pairs
