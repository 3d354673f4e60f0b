use Rattle.flat_core.proofs.LaterLines.{leaves_earlier}
use Rattle.flat_core.proofs.laws.later_lines_leave_earlier.Goals as goal

pub returns : goal.returns
returns c = leaves_earlier
