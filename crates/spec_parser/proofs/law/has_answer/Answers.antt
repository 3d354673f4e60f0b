use Rattle.spec_parser.proofs.AnswerLaws.{has_answer}
use Rattle.spec_parser.proofs.law.has_answer.Goals as goal

pub returns : goal.returns
returns c = has_answer
