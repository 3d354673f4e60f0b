use Rattle.trace_reader.proofs.InputLemmas.{others_leave_reading}
use Rattle.trace_reader.proofs.laws.others_leave_reading.Goals as goal

pub returns : goal.returns
returns c = others_leave_reading
