use Rattle.std.proofs.Common.{◌∙◌}
use Rattle.function_bodies.proofs.EndLemmas.{at_answer}
use Rattle.function_bodies.proofs.functions.Functions.at.Goals as goal

pub returns : goal.returns
returns c =
    at_answer c.call_body.result c.args.self.now c.as_slice.result.now c.deref.result.now c.args.operands.now c.args.number
    (c.as_slice.ensures.value ∙ c.self.view_is)
    (c.deref.ensures.value ∙ c.in_ok-operands.ensures)
    c.call_body.ensures
