use Rattle.spec_parser.proofs.OneRefusal.{one_refusal, one_unexpected, one_too_deep}
use Rattle.spec_parser.proofs.law.one_refusal.Goals as goal

pub returns-clause-both : goal.returns-clause-both
returns-clause-both c = λ room tokens front rest before left t u d. one_refusal room tokens front rest u before t left d

pub returns-clause-unexpected : goal.returns-clause-unexpected
returns-clause-unexpected c = λ room tokens front rest front2 rest2 u v. one_unexpected room tokens front rest u front2 rest2 v

pub returns-clause-too_deep : goal.returns-clause-too_deep
returns-clause-too_deep c = λ room tokens front left front2 left2 t t2 d e. one_too_deep room tokens front t left d front2 t2 left2 e
