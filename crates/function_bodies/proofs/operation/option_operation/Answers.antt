use Rattle.std.proofs.Common.{Some, None, ◌∙◌}
use Rattle.function_bodies.proofs.OptionLemmas.{option_found}
use Rattle.function_bodies.proofs.operation.option_operation.Goals as goal

pub returns-in-Some : goal.returns-in-Some
returns-in-Some c = λ a. option_found c.args.name.now a (Some c.in-Some.role) c.in-Some.ensures ∙ c.one_of.ensures a

pub returns-in-None : goal.returns-in-None
returns-in-None c = λ a. option_found c.args.name.now a None c.in-None.ensures
