use Rattle.trace_why.proofs.Meaning.{answers_as_meant}
use Rattle.trace_why.proofs.laws.answers_as_meant.Goals as goal

pub returns : goal.returns
returns c = answers_as_meant
