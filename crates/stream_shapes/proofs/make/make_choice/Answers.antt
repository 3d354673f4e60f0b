use Rattle.std.proofs.Common.{[], ◌∷◌, map, refl}
use Rattle.tsl_value.proofs.Results.{on_err}
use Rattle.flat_core.specs.Typed.{bool_type}
use Rattle.spec_meaning.specs.Shape.{operand}
use Rattle.stream_constructs.proofs.LiftingHangs.{operands_vary}
use Rattle.stream_constructs.proofs.Partly.{has_none}
use Rattle.stream_shapes.proofs.make.make_choice.Goals as goal

pub with_streams-requires : goal.with_streams-requires
with_streams-requires c = operands_vary (map operand c.args.operands.items) c.args.parts.now (bool_type ∷ c.args.of ∷ c.args.of ∷ []) c.requires.0

pub returns-in_err-operands-clause-partly : goal.returns-in_err-operands-clause-partly
returns-in_err-operands-clause-partly c = on_err _ (has_none c.args.maker.now c.args.maker.now _ refl)
