use Rattle.std.proofs.Common.{take}
use Rattle.alias_paths.specs.inner.Pairs.{Adds, IsGiven}
use Rattle.alias_nears.proofs.Constraining.{GivesArgument}
use Rattle.alias_nears.proofs.steps.push_arguments.Given as goal

abbrev pub invariant-loop-argument : goal.invariant-loop-argument
invariant-loop-argument l = Adds l.initial.pairs (IsGiven (take l.argument-index l.arguments) (GivesArgument l.number l.runs)) l.pairs
