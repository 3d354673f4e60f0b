use Rattle.checked_spec.proofs.WholeFunctions.{functions_are_typed}
use Rattle.checked_spec.proofs.function_laws.functions_are_typed.Goals as goal

pub returns : goal.returns
returns c items kinds checked = functions_are_typed items kinds checked
