use Rattle.std.proofs.Common.{Some, None, sym, ◌∙◌}
use Rattle.name_check.proofs.TableLemmas.{function_in, function_there, no_function}
use Rattle.name_check.proofs.names.Names.find_function.Goals as goal

pub returns-then-is_function : goal.returns-then-is_function
returns-then-is_function c =
    function_there c.in-Some.found _ (sym c.is_function.ensures ∙ c.if-is_function.true)
    (function_in c.args.self.now c.args.name.now c.self.inside.entries.entries (Some c.in-Some.found) c.self.view_is c.self.invariant (c.in-Some.ensures ∙ c.get.ensures.value))

pub returns-else-is_function : goal.returns-else-is_function
returns-else-is_function c =
    no_function c.in-Some.found _ (sym c.is_function.ensures ∙ c.if-is_function.false)
    (function_in c.args.self.now c.args.name.now c.self.inside.entries.entries (Some c.in-Some.found) c.self.view_is c.self.invariant (c.in-Some.ensures ∙ c.get.ensures.value))

pub returns-in-None : goal.returns-in-None
returns-in-None c =
    function_in c.args.self.now c.args.name.now c.self.inside.entries.entries None c.self.view_is c.self.invariant (c.in-None.ensures ∙ c.get.ensures.value)
