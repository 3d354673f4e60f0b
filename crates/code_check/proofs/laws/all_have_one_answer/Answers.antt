use Rattle.code_check.proofs.OneAnswer.{one_answer}
use Rattle.code_check.proofs.laws.all_have_one_answer.Goals as goal

pub returns : goal.returns
returns c = one_answer
