use Rattle.checked_spec.proofs.Within.{argument_stands_in}
use Rattle.checked_spec.proofs.flat_laws.arguments_stand_in.Goals as goal

pub returns : goal.returns
returns c p x es none = argument_stands_in p x es none
