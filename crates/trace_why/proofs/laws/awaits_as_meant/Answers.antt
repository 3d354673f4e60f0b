use Rattle.trace_why.proofs.Meaning.{awaits_as_meant}
use Rattle.trace_why.proofs.laws.awaits_as_meant.Goals as goal

pub returns : goal.returns
returns c = awaits_as_meant
