use Rattle.trace_why.proofs.OneKind.{one_kind_is_meant}
use Rattle.trace_why.proofs.laws.one_kind_is_meant.Goals as goal

pub returns : goal.returns
returns c = one_kind_is_meant
