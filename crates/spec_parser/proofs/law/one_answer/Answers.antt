use Rattle.spec_parser.proofs.AnswerLaws.{tree_or_unexpected, tree_or_too_deep}
use Rattle.spec_parser.proofs.law.one_answer.Goals as goal

pub returns-clause-unexpected : goal.returns-clause-unexpected
returns-clause-unexpected c = tree_or_unexpected

pub returns-clause-too_deep : goal.returns-clause-too_deep
returns-clause-too_deep c = tree_or_too_deep
