use Rattle.std.proofs.Common.{◌≡◌, drop}
use Rattle.equation_types.specs.inner.Arguments.{types_at}
use Rattle.equation_types.proofs.TypedArguments.{after}
use Rattle.equation_types.proofs.arguments.types_at.Given as goal

abbrev pub invariant-loop-id : goal.invariant-loop-id
invariant-loop-id l = after l.types.items (types_at l.equations (drop l.id-index l.args)) ≡ types_at l.equations l.args
