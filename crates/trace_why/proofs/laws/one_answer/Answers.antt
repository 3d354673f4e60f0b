use Rattle.trace_why.proofs.OneAnswer.{one_answer}
use Rattle.trace_why.proofs.laws.one_answer.Goals as goal

pub returns : goal.returns
returns c = one_answer
